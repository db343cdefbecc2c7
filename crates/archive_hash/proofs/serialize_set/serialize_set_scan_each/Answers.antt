use Rattle.std.proofs.Common.{List, All, sym, subst}
use Rattle.archive_shape_layout.specs.Shape.Shape.{tuple}
use Rattle.archive_shape_layout.specs.Shape.Shapes.{no_shapes}
use Rattle.archive_shape_layout.specs.Writing.{WriterMembers}
use Rattle.archive_forms_laws.specs.Fields.{unit_spelling}
use Rattle.archive_forms_laws.specs.Serializing.{Serializes}
use Rattle.archive_hash_probing.specs.Inputs.{input_hash}
use Rattle.archive_hash.specs.Owned.{entries_spelling, key_entries}
use Rattle.archive_hash.proofs.Whole.{takes_given}
use Rattle.archive_hash.proofs.serialize_set.serialize_set_scan_each.Goals as goal

pub serialize_keys_scan_each-requires-clause-takes : goal.serialize_keys_scan_each-requires-clause-takes
serialize_keys_scan_each-requires-clause-takes g c =
    let P : List g.row.K.Denot → Type 0 = λ ks. All (g.C.EntryStep.takes c.args.step.now (record {})) (key_entries ks) in
    takes_given (g.C.EntryStep.takes c.args.step.now) (record {}) (key_entries c.iter.result) (subst P (sym c.iter.ensures.rest) c.requires.takes)

pub returns : goal.returns
returns g c =
    let s : WriterMembers g.row.S.Denot = record { known = g.S.Registry.known; pos = g.S.Positional.pos; OBSERVABLE = g.S.Writer.OBSERVABLE; COUNTS = g.S.Writer.COUNTS; contents = g.S.Writer.contents; failures = g.S.Writer.failures; last_error = g.S.Writer.last_error } in
    let w = entries_spelling (λ k. input_hash (g.K.Hash.hash_input k)) g.K.Archived.Portable.shape (tuple no_shapes) g.K.Archive.spelling unit_spelling in
    let P : List g.row.K.Denot → Type 0 = λ ks. Serializes w s (key_entries ks) c.args.serializer.now c.serialize_keys_scan_each.new.serializer c.serialize_keys_scan_each.result in
    subst P c.iter.ensures.rest c.serialize_keys_scan_each.ensures
