use Rattle.std.proofs.Common.{rules, ◌≡◌, Err, arith}
use Rattle.archive_shape_layout.specs.Writing.{WriterMembers}
use Rattle.archive_forms_writing.proofs.Pairs.{key_quiet, key_state, value_stopped, pair_written}
use Rattle.archive_forms_writing.proofs.steps.SerializeEntryEntryStepByArchive.serialize_entry.Goals as goal

pub serialize-requires-2-clause-room : goal.serialize-requires-2-clause-room
serialize-requires-2-clause-room g c =
    let m : WriterMembers g.row.S.Denot = record { known = g.S.Registry.known; pos = g.S.Positional.pos; OBSERVABLE = g.S.Writer.OBSERVABLE; COUNTS = g.S.Writer.COUNTS; contents = g.S.Writer.contents; failures = g.S.Writer.failures; last_error = g.S.Writer.last_error } in
    let quiet = key_quiet g.K.Archived.Portable.shape g.V.Archived.Portable.shape g.K.Archive.spelling g.V.Archive.spelling m c.args.key.now c.args.value.now c.args.serializer.now (λ r. r) c.serialize.new.serializer c.in_ok-key.key c.in_ok-key.ensures c.requires.state in
    omega (arith, quiet, c.requires.room)

pub serialize-requires-2-clause-state : goal.serialize-requires-2-clause-state
serialize-requires-2-clause-state g c =
    let m : WriterMembers g.row.S.Denot = record { known = g.S.Registry.known; pos = g.S.Positional.pos; OBSERVABLE = g.S.Writer.OBSERVABLE; COUNTS = g.S.Writer.COUNTS; contents = g.S.Writer.contents; failures = g.S.Writer.failures; last_error = g.S.Writer.last_error } in
    key_state g.K.Archived.Portable.shape g.V.Archived.Portable.shape g.K.Archive.spelling g.V.Archive.spelling m c.args.key.now c.args.value.now c.args.serializer.now (λ r. r) c.serialize.new.serializer c.in_ok-key.key c.in_ok-key.ensures c.requires.state

pub returns-in_err-value : goal.returns-in_err-value
returns-in_err-value g c =
    let m : WriterMembers g.row.S.Denot = record { known = g.S.Registry.known; pos = g.S.Positional.pos; OBSERVABLE = g.S.Writer.OBSERVABLE; COUNTS = g.S.Writer.COUNTS; contents = g.S.Writer.contents; failures = g.S.Writer.failures; last_error = g.S.Writer.last_error } in
    let passed : c.from_residual-in_err-value.result ≡ Err c.in_err-value.field-0.0 = search rules in
    rw passed (value_stopped g.K.Archived.Portable.shape g.V.Archived.Portable.shape g.K.Archive.spelling g.V.Archive.spelling m c.args.key.now c.args.value.now c.args.serializer.now (λ r. r) c.serialize.new.serializer c.in_ok-key.key c.in_ok-key.ensures (λ r. r) c.serialize-2.new.serializer c.in_err-value.field-0.0 c.in_err-value.ensures)

pub returns : goal.returns
returns g c =
    let m : WriterMembers g.row.S.Denot = record { known = g.S.Registry.known; pos = g.S.Positional.pos; OBSERVABLE = g.S.Writer.OBSERVABLE; COUNTS = g.S.Writer.COUNTS; contents = g.S.Writer.contents; failures = g.S.Writer.failures; last_error = g.S.Writer.last_error } in
    pair_written g.K.Archived.Portable.shape g.V.Archived.Portable.shape g.K.Archive.spelling g.V.Archive.spelling m c.args.key.now c.args.value.now c.args.serializer.now (λ r. r) c.serialize.new.serializer c.in_ok-key.key c.in_ok-key.ensures (λ r. r) c.serialize-2.new.serializer c.in_ok-value.value c.in_ok-value.ensures
