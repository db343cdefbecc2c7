use Rattle.std.proofs.Common.{◌≡◌}
use Rattle.archive_shape_layout.specs.Writing.{WriterMembers}
use Rattle.archive_forms_values.specs.Tuples.{tuple2}
use Rattle.archive_forms_laws.specs.Fields.{tuple2_spelling}
use Rattle.archive_hash_probing.specs.Inputs.{input_hash}
use Rattle.archive_hash.proofs.Whole.{hashed_more}
use Rattle.archive_hash_writing.specs.IndexResolvers.{written_map}
use Rattle.archive_index.proofs.map.map.ArchivedIndexMap.serialize_from_iter.Goals as goal

pub returns : goal.returns
returns g c =
    let s : WriterMembers g.row.S.Denot = record { known = g.S.Registry.known; pos = g.S.Positional.pos; OBSERVABLE = g.S.Writer.OBSERVABLE; COUNTS = g.S.Writer.COUNTS; contents = g.S.Writer.contents; failures = g.S.Writer.failures; last_error = g.S.Writer.last_error } in
    hashed_more _ _ c.args.load_factor (written_map c.args.load_factor (tuple2 g.K.Portable.shape g.V.Portable.shape) (tuple2_spelling g.K.Portable.shape g.A.Archive.spelling g.V.Portable.shape g.B.Archive.spelling)) s (λ e h. h ≡ input_hash (g.A.Hash.hash_input e.0)) c.args.len c.args.serializer.now c.serialize_given_pairs.new.serializer c.serialize_given_pairs.result
    (λ es d. (c.into_iter-pairs.result, c.into_iter-pairs.ensures.into_iter_gives, d)) c.serialize_given_pairs.ensures
