use Rattle.archive_shape_layout.specs.Shape.Shape.{tuple}
use Rattle.archive_shape_layout.specs.Shape.Shapes.{no_shapes}
use Rattle.archive_shape_layout.specs.Writing.{WriterMembers}
use Rattle.archive_forms_laws.specs.Fields.{unit_spelling}
use Rattle.archive_hash_probing.specs.Inputs.{input_hash}
use Rattle.archive_hash.proofs.Whole.{writes_more}
use Rattle.archive_hash.proofs.keys_from_iter.serialize_set_from_iter.Goals as goal

pub returns : goal.returns
returns g c =
    let s : WriterMembers g.row.S.Denot = record { known = g.S.Registry.known; pos = g.S.Positional.pos; OBSERVABLE = g.S.Writer.OBSERVABLE; COUNTS = g.S.Writer.COUNTS; contents = g.S.Writer.contents; failures = g.S.Writer.failures; last_error = g.S.Writer.last_error } in
    writes_more _ _ (λ k. input_hash (g.K.Hash.hash_input k)) c.args.load_factor g.K.Archived.Portable.shape (tuple no_shapes) g.K.Archive.spelling unit_spelling s c.args.len c.args.serializer.now c.serialize_given_keys.new.serializer c.serialize_given_keys.result
    (λ es d. (c.into_iter-keys.result, c.into_iter-keys.ensures.into_iter_gives, d)) c.serialize_given_keys.ensures
