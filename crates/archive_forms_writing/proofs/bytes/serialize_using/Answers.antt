use Rattle.archive_shape_layout.specs.Writing.{WriterMembers}
use Rattle.archive_forms_writing.proofs.Root.{makes_archive}
use Rattle.archive_forms_writing.proofs.bytes.serialize_using.Goals as goal

pub returns-clause-archive : goal.returns-clause-archive
returns-clause-archive g c =
    let s : WriterMembers g.row.S.Denot = record { known = g.S.Registry.known; pos = g.S.Positional.pos; OBSERVABLE = g.S.Writer.OBSERVABLE; COUNTS = g.S.Writer.COUNTS; contents = g.S.Writer.contents; failures = g.S.Writer.failures; last_error = g.S.Writer.last_error } in
    makes_archive g.T.Archived.Portable.shape g.T.Archived.Portable.knows g.T.Archive.spelling s c.args.value.now _ _ _ g.met.T.Archive.spells c.serialize_one_each.ensures
