use Rattle.std.proofs.Common.{rules, ◌≡◌, Ok, Err, sym, subst, ap, ◌∙◌}
use Rattle.std.specs.Prelude.{nat_eq}
use Rattle.std.specs.HashMap.{get}
use Rattle.archive_shape_layout.specs.Writing.{WriterMembers}
use Rattle.archive_core_serializing.specs.Kept.{progress_kept}
use Rattle.archive_core_serializing.specs.declared.shares.share.Share.{Share}
use Rattle.archive_core.specs.Written.{ArchivesIn}
use Rattle.archive_core.proofs.From.{written_from, accepted_from}
use Rattle.archive_core.proofs.Laid.{archived_in, stands_at}
use Rattle.archive_core.proofs.bytes.to_bytes_in_with_alloc.Goals as goal

pub serialize_using-requires-clause-state : goal.serialize_using-requires-clause-state
serialize_using-requires-clause-state g c = record { state = _; is_at = stands_at _ _ c.new-serializer.result (λ key. ap (λ (sharing : Share). progress_kept (get nat_eq sharing.ends key)) c.new-serializer.ensures.sharing ∙ c.new-sharing.ensures key) }

pub returns-clause-writes : goal.returns-clause-writes
returns-clause-writes g c =
    let m : WriterMembers g.row.W.Denot = record { known = g.W.Registry.known; pos = g.W.Positional.pos; OBSERVABLE = g.W.Writer.OBSERVABLE; COUNTS = g.W.Writer.COUNTS; contents = g.W.Writer.contents; failures = g.W.Writer.failures; last_error = g.W.Writer.last_error } in
    let told = archived_in (λ s. s.writer) m _ g.T.Archived.Portable.shape g.T.Archive.spelling c.args.value.now c.new-serializer.result c.serialize_using.new.serializer c.args.writer c.new-serializer.ensures.writer (λ key. ap (λ (sharing : Share). progress_kept (get nat_eq sharing.ends key)) c.new-serializer.ensures.sharing ∙ c.new-sharing.ensures key) (Ok c.in_ok-serialize_using.field-0) c.in_ok-serialize_using.ensures.writes in
    let P : g.row.W.Denot → Type 0 = λ v. ArchivesIn g.T.Archived.Portable.shape g.T.Archive.spelling m c.args.value.now c.args.writer (Ok v) in
    subst P (sym c.into_writer.ensures) told

pub returns-clause-archive : goal.returns-clause-archive
returns-clause-archive g c = λ told long are fit names keys known keyed.
    let m : WriterMembers g.row.W.Denot = record { known = g.W.Registry.known; pos = g.W.Positional.pos; OBSERVABLE = g.W.Writer.OBSERVABLE; COUNTS = g.W.Writer.COUNTS; contents = g.W.Writer.contents; failures = g.W.Writer.failures; last_error = g.W.Writer.last_error } in
    let wrote = archived_in (λ s. s.writer) m _ g.T.Archived.Portable.shape g.T.Archive.spelling c.args.value.now c.new-serializer.result c.serialize_using.new.serializer c.args.writer c.new-serializer.ensures.writer (λ key. ap (λ (sharing : Share). progress_kept (get nat_eq sharing.ends key)) c.new-serializer.ensures.sharing ∙ c.new-sharing.ensures key) (Ok c.in_ok-serialize_using.field-0) c.in_ok-serialize_using.ensures.writes in
    written_from fit g.T.Archived.Portable.shape g.T.Archived.Portable.knows g.T.Archive.spelling c.args.value.now names keys (m.contents c.args.writer) _ (m.pos c.args.writer)
    (g.met.T.Archive.spells fit) known keyed wrote.1 long are (ap m.contents c.into_writer.ensures ∙ wrote.0.gains told)

pub returns-clause-accepted : goal.returns-clause-accepted
returns-clause-accepted g c = λ told long are.
    let m : WriterMembers g.row.W.Denot = record { known = g.W.Registry.known; pos = g.W.Positional.pos; OBSERVABLE = g.W.Writer.OBSERVABLE; COUNTS = g.W.Writer.COUNTS; contents = g.W.Writer.contents; failures = g.W.Writer.failures; last_error = g.W.Writer.last_error } in
    let wrote = archived_in (λ s. s.writer) m _ g.T.Archived.Portable.shape g.T.Archive.spelling c.args.value.now c.new-serializer.result c.serialize_using.new.serializer c.args.writer c.new-serializer.ensures.writer (λ key. ap (λ (sharing : Share). progress_kept (get nat_eq sharing.ends key)) c.new-serializer.ensures.sharing ∙ c.new-sharing.ensures key) (Ok c.in_ok-serialize_using.field-0) c.in_ok-serialize_using.ensures.writes in
    accepted_from g.T.Archived.Portable.shape g.T.Archived.Portable.knows g.T.Archive.spelling c.args.value.now (m.contents c.args.writer) _ (m.pos c.args.writer)
    g.met.T.Archive.spells wrote.1 long are (ap m.contents c.into_writer.ensures ∙ wrote.0.gains told)

pub returns-in_err-serialize_using-clause-writes : goal.returns-in_err-serialize_using-clause-writes
returns-in_err-serialize_using-clause-writes g c =
    let failed : c.from_residual.result ≡ Err c.in_err-serialize_using.field-0.0 = search rules in
    rw failed
    (let m : WriterMembers g.row.W.Denot = record { known = g.W.Registry.known; pos = g.W.Positional.pos; OBSERVABLE = g.W.Writer.OBSERVABLE; COUNTS = g.W.Writer.COUNTS; contents = g.W.Writer.contents; failures = g.W.Writer.failures; last_error = g.W.Writer.last_error } in
    (c.serialize_using.new.serializer.writer, archived_in (λ s. s.writer) m _ g.T.Archived.Portable.shape g.T.Archive.spelling c.args.value.now c.new-serializer.result c.serialize_using.new.serializer c.args.writer c.new-serializer.ensures.writer (λ key. ap (λ (sharing : Share). progress_kept (get nat_eq sharing.ends key)) c.new-serializer.ensures.sharing ∙ c.new-sharing.ensures key) (Err c.in_err-serialize_using.field-0.0) c.in_err-serialize_using.ensures.writes))
