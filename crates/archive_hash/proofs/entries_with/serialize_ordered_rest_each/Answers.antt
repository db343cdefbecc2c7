use Rattle.std.proofs.Common.{refl}
use Rattle.archive_shape_layout.specs.Writing.{WriterMembers}
use Rattle.archive_hash_probing.specs.Inputs.{input_hash}
use Rattle.archive_hash.proofs.Whole.{whole_written}
use Rattle.archive_hash.proofs.entries_with.serialize_ordered_rest_each.Goals as goal

pub returns : goal.returns
returns g c =
    let s : WriterMembers g.row.S.Denot = record { known = g.S.Registry.known; pos = g.S.Positional.pos; OBSERVABLE = g.S.Writer.OBSERVABLE; COUNTS = g.S.Writer.COUNTS; contents = g.S.Writer.contents; failures = g.S.Writer.failures; last_error = g.S.Writer.last_error } in
    whole_written (λ k. input_hash (g.K.Hash.hash_input k)) g.K.Archived.Portable.shape g.A.Archived.Portable.shape g.K.Archive.spelling (g.A.ArchiveWith.spelling c.args.with.now) s c.args.pairs c.args.serializer.now c.serialize_entries_scan_each.new.serializer c.serialize_entries_scan_each.result
    c.args.pairs c.args.len refl c.requires.counted c.serialize_entries_scan_each.ensures
