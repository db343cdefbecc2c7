use Rattle.std.proofs.Common.{◌+◌, ◌*◌, length, map, refl, inl}
use Rattle.archive_shape_layout.specs.Shape.{size_of}
use Rattle.archive_shape_layout.specs.Writing.{WriterMembers}
use Rattle.archive_forms_writing.proofs.Laying.{stopped_before}
use Rattle.archive_hash_writing.specs.Tables.{buckets, buckets_refused}
use Rattle.archive_hash_writing.specs.Standing.{standing}
use Rattle.archive_hash_writing.proofs.buckets.write_buckets.Goals as goal

pub returns-in-Err : goal.returns-in-Err
returns-in-Err g c = λ st made.
    let w = g.A.ArchiveWith.spelling c.args.with.now in
    let sh = g.A.Archived.Portable.shape in
    let s : WriterMembers g.row.S.Denot = record { known = g.S.Registry.known; pos = g.S.Positional.pos; OBSERVABLE = g.S.Writer.OBSERVABLE; COUNTS = g.S.Writer.COUNTS; contents = g.S.Writer.contents; failures = g.S.Writer.failures; last_error = g.S.Writer.last_error } in
    let os = map standing c.args.table.now in
    let end = g.S.Positional.pos c.args.serializer.now + length os * size_of sh in
    stopped_before s c.args.serializer.now (buckets sh w os st end) (buckets_refused sh w os st end) _ (inl refl)
