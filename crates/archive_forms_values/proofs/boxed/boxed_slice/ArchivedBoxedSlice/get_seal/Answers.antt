use Rattle.std.proofs.Common.{rules}
use Rattle.archive_forms_values.proofs.Slices.{has_vector, boxed_slice_there}
use Rattle.archive_forms_values.proofs.boxed.boxed_slice.ArchivedBoxedSlice.get_seal.Goals as goal

pub as_slice_seal-requires : goal.as_slice_seal-requires
as_slice_seal-requires g c =
    let there = has_vector g.T.Portable.shape c.args.this.bytes.now c.args.this.pos g.T.Portable.knows c.requires in
    search (rules, there)

pub returns-clause-elements : goal.returns-clause-elements
returns-clause-elements g c =
    boxed_slice_there g.T.Portable.shape c.args.this.bytes.now c.args.this.pos g.T.Portable.knows _ _ _ _
    (c.new.ensures.bytes) c.new.ensures.pos c.as_slice_seal.ensures.elements
