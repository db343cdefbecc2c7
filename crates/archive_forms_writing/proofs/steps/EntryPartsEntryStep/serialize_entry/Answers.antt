use Rattle.std.proofs.Common.{rules, ◌≡◌, Err, arith, refl}
use Rattle.archive_shape_layout.specs.Writing.{WriterMembers}
use Rattle.archive_forms_writing.proofs.Pairs.{key_stopped, key_quiet, key_state, value_stopped, pair_written}
use Rattle.archive_forms_writing.proofs.steps.EntryPartsEntryStep.serialize_entry.Goals as goal

pub key-requires : goal.key-requires
key-requires g c =
    let m : WriterMembers g.row.S.Denot = record { known = g.S.Registry.known; pos = g.S.Positional.pos; OBSERVABLE = g.S.Writer.OBSERVABLE; COUNTS = g.S.Writer.COUNTS; contents = g.S.Writer.contents; failures = g.S.Writer.failures; last_error = g.S.Writer.last_error } in
    c.requires.taken.takes_key _ _ (0, omega arith, refl) c.requires.room c.requires.state

pub returns-in_err-key : goal.returns-in_err-key
returns-in_err-key g c =
    let m : WriterMembers g.row.S.Denot = record { known = g.S.Registry.known; pos = g.S.Positional.pos; OBSERVABLE = g.S.Writer.OBSERVABLE; COUNTS = g.S.Writer.COUNTS; contents = g.S.Writer.contents; failures = g.S.Writer.failures; last_error = g.S.Writer.last_error } in
    let first = c.requires.taken.writes_key _ _ _ _ c.requires.room c.requires.state c.in_err-key.ensures in
    let passed : c.from_residual.result ≡ Err c.in_err-key.field-0.0 = search rules in
    rw passed (key_stopped g.K.Archived.Portable.shape g.A.Archived.Portable.shape g.K.Archive.spelling (g.A.ArchiveWith.spelling c.args._with.now) m c.args.key.now c.args.value.now c.args.serializer.now (λ r. r) c.key.new.arg3 c.in_err-key.field-0.0 first)

pub value-requires : goal.value-requires
value-requires g c =
    let m : WriterMembers g.row.S.Denot = record { known = g.S.Registry.known; pos = g.S.Positional.pos; OBSERVABLE = g.S.Writer.OBSERVABLE; COUNTS = g.S.Writer.COUNTS; contents = g.S.Writer.contents; failures = g.S.Writer.failures; last_error = g.S.Writer.last_error } in
    let first = c.requires.taken.writes_key _ _ _ _ c.requires.room c.requires.state c.in_ok-key.ensures in
    let quiet = key_quiet g.K.Archived.Portable.shape g.A.Archived.Portable.shape g.K.Archive.spelling (g.A.ArchiveWith.spelling c.args._with.now) m c.args.key.now c.args.value.now c.args.serializer.now (λ q. q.0) c.key.new.arg3 c.in_ok-key.field-0 first c.requires.state in
    c.requires.taken.takes_value _ _ (0, omega arith, refl) (omega (arith, quiet, c.requires.room)) (key_state g.K.Archived.Portable.shape g.A.Archived.Portable.shape g.K.Archive.spelling (g.A.ArchiveWith.spelling c.args._with.now) m c.args.key.now c.args.value.now c.args.serializer.now (λ q. q.0) c.key.new.arg3 c.in_ok-key.field-0 first c.requires.state)

pub returns-in_err-value : goal.returns-in_err-value
returns-in_err-value g c =
    let m : WriterMembers g.row.S.Denot = record { known = g.S.Registry.known; pos = g.S.Positional.pos; OBSERVABLE = g.S.Writer.OBSERVABLE; COUNTS = g.S.Writer.COUNTS; contents = g.S.Writer.contents; failures = g.S.Writer.failures; last_error = g.S.Writer.last_error } in
    let first = c.requires.taken.writes_key _ _ _ _ c.requires.room c.requires.state c.in_ok-key.ensures in
    let quiet = key_quiet g.K.Archived.Portable.shape g.A.Archived.Portable.shape g.K.Archive.spelling (g.A.ArchiveWith.spelling c.args._with.now) m c.args.key.now c.args.value.now c.args.serializer.now (λ q. q.0) c.key.new.arg3 c.in_ok-key.field-0 first c.requires.state in
    let second = c.requires.taken.writes_value _ _ _ _ (omega (arith, quiet, c.requires.room)) (key_state g.K.Archived.Portable.shape g.A.Archived.Portable.shape g.K.Archive.spelling (g.A.ArchiveWith.spelling c.args._with.now) m c.args.key.now c.args.value.now c.args.serializer.now (λ q. q.0) c.key.new.arg3 c.in_ok-key.field-0 first c.requires.state) c.in_err-value.ensures in
    let passed : c.from_residual-in_err-value.result ≡ Err c.in_err-value.field-0.0 = search rules in
    rw passed (value_stopped g.K.Archived.Portable.shape g.A.Archived.Portable.shape g.K.Archive.spelling (g.A.ArchiveWith.spelling c.args._with.now) m c.args.key.now c.args.value.now c.args.serializer.now (λ q. q.0) c.key.new.arg3 c.in_ok-key.field-0 first (λ r. r) c.value.new.arg3 c.in_err-value.field-0.0 second)

pub returns : goal.returns
returns g c =
    let m : WriterMembers g.row.S.Denot = record { known = g.S.Registry.known; pos = g.S.Positional.pos; OBSERVABLE = g.S.Writer.OBSERVABLE; COUNTS = g.S.Writer.COUNTS; contents = g.S.Writer.contents; failures = g.S.Writer.failures; last_error = g.S.Writer.last_error } in
    let first = c.requires.taken.writes_key _ _ _ _ c.requires.room c.requires.state c.in_ok-key.ensures in
    let quiet = key_quiet g.K.Archived.Portable.shape g.A.Archived.Portable.shape g.K.Archive.spelling (g.A.ArchiveWith.spelling c.args._with.now) m c.args.key.now c.args.value.now c.args.serializer.now (λ q. q.0) c.key.new.arg3 c.in_ok-key.field-0 first c.requires.state in
    let second = c.requires.taken.writes_value _ _ _ _ (omega (arith, quiet, c.requires.room)) (key_state g.K.Archived.Portable.shape g.A.Archived.Portable.shape g.K.Archive.spelling (g.A.ArchiveWith.spelling c.args._with.now) m c.args.key.now c.args.value.now c.args.serializer.now (λ q. q.0) c.key.new.arg3 c.in_ok-key.field-0 first c.requires.state) c.in_ok-value.ensures in
    pair_written g.K.Archived.Portable.shape g.A.Archived.Portable.shape g.K.Archive.spelling (g.A.ArchiveWith.spelling c.args._with.now) m c.args.key.now c.args.value.now c.args.serializer.now (λ q. q.0) c.key.new.arg3 c.in_ok-key.field-0 first (λ q. q.0) c.value.new.arg3 c.in_ok-value.field-0 second
