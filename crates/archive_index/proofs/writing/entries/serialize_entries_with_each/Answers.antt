use Rattle.archive_shape_layout.specs.Writing.{WriterMembers}
use Rattle.archive_forms_writing.proofs.Parts.{parts_written}
use Rattle.archive_index.proofs.writing.entries.serialize_entries_with_each.Goals as goal

pub serialize_pairs_each-requires-clause-takes : goal.serialize_pairs_each-requires-clause-takes
serialize_pairs_each-requires-clause-takes g c =
    let s : WriterMembers g.row.S.Denot = record { known = g.S.Registry.known; pos = g.S.Positional.pos; OBSERVABLE = g.S.Writer.OBSERVABLE; COUNTS = g.S.Writer.COUNTS; contents = g.S.Writer.contents; failures = g.S.Writer.failures; last_error = g.S.Writer.last_error } in
    parts_written g.F.Fn g.G.Fn (λ q. q.0) (λ q. q.0) g.K.Archive.spelling (g.A.ArchiveWith.spelling c.args.with.now) s c.args.key_step c.args.value_step c.args.entries.now c.requires.takes_key c.requires.writes_key c.requires.takes_value c.requires.writes_value
