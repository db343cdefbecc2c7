use Rattle.std.proofs.Common.{rules, ◌≡◌, Err, arith, refl, ap}
use Rattle.archive_shape_layout.specs.Writing.{WriterMembers}
use Rattle.archive_forms_laws.specs.Fields.{no_fields, more_fields}
use Rattle.archive_forms_writing.specs.declared.collections.entry.EntryResolver.{EntryResolver}
use Rattle.archive_forms_writing.proofs.Structs.{reached_none, reached_next, reached_stopped, reached_all}
use Rattle.archive_forms_writing.proofs.collections.entry.serialize_entry_each.Goals as goal

-- the resolvers of the fields of a struct as those of an entry
abbrev join : {R Q : Type 0} → R × (Q × Unit {0}) → EntryResolver R Q
join r = record { key = r.0; value = r.1.0 }

pub returns-in_err-key : goal.returns-in_err-key
returns-in_err-key g c = λ st at.
    let m : WriterMembers g.row.S.Denot = record { known = g.S.Registry.known; pos = g.S.Positional.pos; OBSERVABLE = g.S.Writer.OBSERVABLE; COUNTS = g.S.Writer.COUNTS; contents = g.S.Writer.contents; failures = g.S.Writer.failures; last_error = g.S.Writer.last_error } in
    let of_value = more_fields g.V.Archived.Portable.shape g.V.Archive.spelling no_fields in
    let all = more_fields g.K.Archived.Portable.shape g.K.Archive.spelling of_value in
    let x : g.row.K.Denot × (g.row.V.Denot × Unit {0}) = (c.args.entry.now.key.now, (c.args.entry.now.value.now, tt {0})) in
    let old = c.args.serializer.now in
    let room = c.requires.room in
    let none = reached_none m all x old st at in
    let passed : c.from_residual.result ≡ Err c.in_err-key.field-0.0 = search rules in
    rw passed (reached_stopped m all x old st g.K.Archived.Portable.shape g.K.Archive.spelling of_value x _ st old none _ _ (c.requires.writes_first _ _ _ _ room c.requires.state c.in_err-key.ensures st at))

pub second-requires : goal.second-requires
second-requires g c =
    let m : WriterMembers g.row.S.Denot = record { known = g.S.Registry.known; pos = g.S.Positional.pos; OBSERVABLE = g.S.Writer.OBSERVABLE; COUNTS = g.S.Writer.COUNTS; contents = g.S.Writer.contents; failures = g.S.Writer.failures; last_error = g.S.Writer.last_error } in
    let of_value = more_fields g.V.Archived.Portable.shape g.V.Archive.spelling no_fields in
    let all = more_fields g.K.Archived.Portable.shape g.K.Archive.spelling of_value in
    let x : g.row.K.Denot × (g.row.V.Denot × Unit {0}) = (c.args.entry.now.key.now, (c.args.entry.now.value.now, tt {0})) in
    let old = c.args.serializer.now in
    let room = c.requires.room in
    let st = c.requires.state.state in
    let at = c.requires.state.is_at in
    let none = reached_none m all x old st at in
    let by_first = c.requires.writes_first _ _ _ _ room c.requires.state c.in_ok-key.ensures st at in
    let one = reached_next m all x old st g.K.Archived.Portable.shape g.K.Archive.spelling of_value x _ st old none _ _ by_first.0 by_first.1.0 by_first.1.1 by_first.1.2 in
    let quiet_one = one.wrote.is_quiet in
    c.requires.takes_second _ _ (0, omega arith, refl) (omega arith) (record { state = _; is_at = one.is_at })

pub returns-in_err-value : goal.returns-in_err-value
returns-in_err-value g c = λ st at.
    let m : WriterMembers g.row.S.Denot = record { known = g.S.Registry.known; pos = g.S.Positional.pos; OBSERVABLE = g.S.Writer.OBSERVABLE; COUNTS = g.S.Writer.COUNTS; contents = g.S.Writer.contents; failures = g.S.Writer.failures; last_error = g.S.Writer.last_error } in
    let of_value = more_fields g.V.Archived.Portable.shape g.V.Archive.spelling no_fields in
    let all = more_fields g.K.Archived.Portable.shape g.K.Archive.spelling of_value in
    let x : g.row.K.Denot × (g.row.V.Denot × Unit {0}) = (c.args.entry.now.key.now, (c.args.entry.now.value.now, tt {0})) in
    let old = c.args.serializer.now in
    let room = c.requires.room in
    let none = reached_none m all x old st at in
    let by_first = c.requires.writes_first _ _ _ _ room c.requires.state c.in_ok-key.ensures st at in
    let one = reached_next m all x old st g.K.Archived.Portable.shape g.K.Archive.spelling of_value x _ st old none _ _ by_first.0 by_first.1.0 by_first.1.1 by_first.1.2 in
    let quiet_one = one.wrote.is_quiet in
    let passed : c.from_residual-in_err-value.result ≡ Err c.in_err-value.field-0.0 = search rules in
    rw passed (reached_stopped m all x old st g.V.Archived.Portable.shape g.V.Archive.spelling no_fields x.1 _ _ _ one _ _ (c.requires.writes_second _ _ _ _ (omega arith) (record { state = _; is_at = one.is_at }) c.in_err-value.ensures _ one.is_at))

pub returns : goal.returns
returns g c = λ st at.
    let m : WriterMembers g.row.S.Denot = record { known = g.S.Registry.known; pos = g.S.Positional.pos; OBSERVABLE = g.S.Writer.OBSERVABLE; COUNTS = g.S.Writer.COUNTS; contents = g.S.Writer.contents; failures = g.S.Writer.failures; last_error = g.S.Writer.last_error } in
    let of_value = more_fields g.V.Archived.Portable.shape g.V.Archive.spelling no_fields in
    let all = more_fields g.K.Archived.Portable.shape g.K.Archive.spelling of_value in
    let x : g.row.K.Denot × (g.row.V.Denot × Unit {0}) = (c.args.entry.now.key.now, (c.args.entry.now.value.now, tt {0})) in
    let old = c.args.serializer.now in
    let room = c.requires.room in
    let none = reached_none m all x old st at in
    let by_first = c.requires.writes_first _ _ _ _ room c.requires.state c.in_ok-key.ensures st at in
    let one = reached_next m all x old st g.K.Archived.Portable.shape g.K.Archive.spelling of_value x _ st old none _ _ by_first.0 by_first.1.0 by_first.1.1 by_first.1.2 in
    let quiet_one = one.wrote.is_quiet in
    let by_second = c.requires.writes_second _ _ _ _ (omega arith) (record { state = _; is_at = one.is_at }) c.in_ok-value.ensures _ one.is_at in
    let two = reached_next m all x old st g.V.Archived.Portable.shape g.V.Archive.spelling no_fields x.1 _ _ _ one _ _ by_second.0 by_second.1.0 by_second.1.1 by_second.1.2 in
    let quiet_two = two.wrote.is_quiet in
    let done = reached_all m all x old st _ _ _ _ two in
    (done.0, (ap join done.1.0, done.1.1, done.1.2))
