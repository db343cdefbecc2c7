use Rattle.std.proofs.Common.{refl, inl}
use Rattle.archive_shape_layout.specs.Writing.{WriterMembers}
use Rattle.archive_forms_laws.specs.Regions.{owns, owns_refused}
use Rattle.archive_forms_writing.proofs.Laying.{stopped_before}
use Rattle.archive_forms_writing.proofs.elements.resolve_buffered.Goals as goal

pub returns-in-Err : goal.returns-in-Err
returns-in-Err g c = λ st made.
    let s : WriterMembers g.row.S.Denot = record { known = g.S.Registry.known; pos = g.S.Positional.pos; OBSERVABLE = g.S.Writer.OBSERVABLE; COUNTS = g.S.Writer.COUNTS; contents = g.S.Writer.contents; failures = g.S.Writer.failures; last_error = g.S.Writer.last_error } in
    let pos = g.S.Positional.pos c.args.serializer.now in
    stopped_before s c.args.serializer.now (owns (g.A.ArchiveWith.spelling c.args.with.now) c.args.items.now st pos) (owns_refused (g.A.ArchiveWith.spelling c.args.with.now) g.A.Archived.Portable.shape c.args.items.now st pos) _ (inl refl)
