use Rattle.std.proofs.Common.{sym, subst}
use Rattle.archive_shape_canonical.specs.Sharing.{erased}
use Rattle.archive_forms_values.proofs.Slices.{as_vector, has_vector}
use Rattle.archive_forms.specs.Reading.{reads_all}
use Rattle.archive_forms.proofs.deserializing.boxed_slices.deserialize_boxed_slice_each.Goals as goal

pub deserialize_vec_each-requires-clause-there : goal.deserialize_vec_each-requires-clause-there
deserialize_vec_each-requires-clause-there g c =
    has_vector g.A.Portable.shape c.args.this.bytes.now c.args.this.pos g.A.Portable.knows c.requires.there

pub returns-clause-value : goal.returns-clause-value
returns-clause-value g c = λ v held.
    subst (reads_all g.A.ReadBack.reads (erased v)) (sym c.into_boxed_slice.ensures.items)
    (c.in_ok-all.ensures.value v (as_vector g.A.Portable.shape c.args.this.bytes.now c.args.this.pos g.A.Portable.knows v held))
