use Rattle.archive_shape_layout.specs.Writing.{WriterMembers}
use Rattle.archive_hash_probing.specs.Inputs.{input_hash}
use Rattle.archive_hash.proofs.Whole.{writes_more}
use Rattle.archive_hash.proofs.from_iter.serialize_map_from_iter.Goals as goal

pub returns : goal.returns
returns g c =
    let s : WriterMembers g.row.S.Denot = record { known = g.S.Registry.known; pos = g.S.Positional.pos; OBSERVABLE = g.S.Writer.OBSERVABLE; COUNTS = g.S.Writer.COUNTS; contents = g.S.Writer.contents; failures = g.S.Writer.failures; last_error = g.S.Writer.last_error } in
    writes_more _ _ (λ k. input_hash (g.K.Hash.hash_input k)) c.args.load_factor g.K.Archived.Portable.shape g.V.Archived.Portable.shape g.K.Archive.spelling g.V.Archive.spelling s c.args.len c.args.serializer.now c.serialize_entries_scan_each.new.serializer c.serialize_entries_scan_each.result
    (λ es d. (c.into_iter-pairs.result, c.into_iter-pairs.ensures.into_iter_gives, d)) c.serialize_entries_scan_each.ensures
