use Rattle.std.proofs.Common.{rules, ◌≡◌, Err, arith, refl, ap}
use Rattle.archive_shape_layout.specs.Writing.{WriterMembers}
use Rattle.archive_forms_laws.specs.Fields.{no_fields, more_fields}
use Rattle.archive_forms_writing.proofs.Structs.{reached_none, reached_next, reached_stopped, reached_all}
use Rattle.archive_forms_writing.proofs.tuple4.serialize_tuple4_each.Goals as goal

pub returns-in_err-a : goal.returns-in_err-a
returns-in_err-a g c = λ st at.
    let passed : c.from_residual.result ≡ Err c.in_err-a.field-0.0 = search rules in
    let m : WriterMembers g.row.S.Denot = record { known = g.S.Registry.known; pos = g.S.Positional.pos; OBSERVABLE = g.S.Writer.OBSERVABLE; COUNTS = g.S.Writer.COUNTS; contents = g.S.Writer.contents; failures = g.S.Writer.failures; last_error = g.S.Writer.last_error } in
    let from_fourth = more_fields g.D.Archived.Portable.shape g.D.Archive.spelling no_fields in
    let from_third = more_fields g.C.Archived.Portable.shape g.C.Archive.spelling from_fourth in
    let from_second = more_fields g.B.Archived.Portable.shape g.B.Archive.spelling from_third in
    let all = more_fields g.A.Archived.Portable.shape g.A.Archive.spelling from_second in
    let x : g.row.A.Denot × (g.row.B.Denot × (g.row.C.Denot × (g.row.D.Denot × Unit {0}))) = (c.args.tuple.now.0, (c.args.tuple.now.1, (c.args.tuple.now.2, (c.args.tuple.now.3, tt {0})))) in
    let old = c.args.serializer.now in
    let room = c.requires.room in
    let none = reached_none m all x old st at in
    rw passed (reached_stopped m all x old st g.A.Archived.Portable.shape g.A.Archive.spelling from_second x _ st old none _ _ (c.requires.writes_first _ _ _ _ room c.requires.state c.in_err-a.ensures st at))

pub second-requires : goal.second-requires
second-requires g c =
    let m : WriterMembers g.row.S.Denot = record { known = g.S.Registry.known; pos = g.S.Positional.pos; OBSERVABLE = g.S.Writer.OBSERVABLE; COUNTS = g.S.Writer.COUNTS; contents = g.S.Writer.contents; failures = g.S.Writer.failures; last_error = g.S.Writer.last_error } in
    let from_fourth = more_fields g.D.Archived.Portable.shape g.D.Archive.spelling no_fields in
    let from_third = more_fields g.C.Archived.Portable.shape g.C.Archive.spelling from_fourth in
    let from_second = more_fields g.B.Archived.Portable.shape g.B.Archive.spelling from_third in
    let all = more_fields g.A.Archived.Portable.shape g.A.Archive.spelling from_second in
    let x : g.row.A.Denot × (g.row.B.Denot × (g.row.C.Denot × (g.row.D.Denot × Unit {0}))) = (c.args.tuple.now.0, (c.args.tuple.now.1, (c.args.tuple.now.2, (c.args.tuple.now.3, tt {0})))) in
    let old = c.args.serializer.now in
    let room = c.requires.room in
    let st = c.requires.state.state in
    let at = c.requires.state.is_at in
    let none = reached_none m all x old st at in
    let by_first = c.requires.writes_first _ _ _ _ room c.requires.state c.in_ok-a.ensures st at in
    let one = reached_next m all x old st g.A.Archived.Portable.shape g.A.Archive.spelling from_second x _ st old none _ _ by_first.0 by_first.1.0 by_first.1.1 by_first.1.2 in
    let quiet_one = one.wrote.is_quiet in
    c.requires.takes_second _ _ (0, omega arith, refl) (omega arith) (record { state = _; is_at = one.is_at })

pub returns-in_err-b : goal.returns-in_err-b
returns-in_err-b g c = λ st at.
    let passed : c.from_residual-in_err-b.result ≡ Err c.in_err-b.field-0.0 = search rules in
    let m : WriterMembers g.row.S.Denot = record { known = g.S.Registry.known; pos = g.S.Positional.pos; OBSERVABLE = g.S.Writer.OBSERVABLE; COUNTS = g.S.Writer.COUNTS; contents = g.S.Writer.contents; failures = g.S.Writer.failures; last_error = g.S.Writer.last_error } in
    let from_fourth = more_fields g.D.Archived.Portable.shape g.D.Archive.spelling no_fields in
    let from_third = more_fields g.C.Archived.Portable.shape g.C.Archive.spelling from_fourth in
    let from_second = more_fields g.B.Archived.Portable.shape g.B.Archive.spelling from_third in
    let all = more_fields g.A.Archived.Portable.shape g.A.Archive.spelling from_second in
    let x : g.row.A.Denot × (g.row.B.Denot × (g.row.C.Denot × (g.row.D.Denot × Unit {0}))) = (c.args.tuple.now.0, (c.args.tuple.now.1, (c.args.tuple.now.2, (c.args.tuple.now.3, tt {0})))) in
    let old = c.args.serializer.now in
    let room = c.requires.room in
    let none = reached_none m all x old st at in
    let by_first = c.requires.writes_first _ _ _ _ room c.requires.state c.in_ok-a.ensures st at in
    let one = reached_next m all x old st g.A.Archived.Portable.shape g.A.Archive.spelling from_second x _ st old none _ _ by_first.0 by_first.1.0 by_first.1.1 by_first.1.2 in
    let quiet_one = one.wrote.is_quiet in
    rw passed (reached_stopped m all x old st g.B.Archived.Portable.shape g.B.Archive.spelling from_third x.1 _ _ _ one _ _ (c.requires.writes_second _ _ _ _ (omega arith) (record { state = _; is_at = one.is_at }) c.in_err-b.ensures _ one.is_at))

pub third-requires : goal.third-requires
third-requires g c =
    let m : WriterMembers g.row.S.Denot = record { known = g.S.Registry.known; pos = g.S.Positional.pos; OBSERVABLE = g.S.Writer.OBSERVABLE; COUNTS = g.S.Writer.COUNTS; contents = g.S.Writer.contents; failures = g.S.Writer.failures; last_error = g.S.Writer.last_error } in
    let from_fourth = more_fields g.D.Archived.Portable.shape g.D.Archive.spelling no_fields in
    let from_third = more_fields g.C.Archived.Portable.shape g.C.Archive.spelling from_fourth in
    let from_second = more_fields g.B.Archived.Portable.shape g.B.Archive.spelling from_third in
    let all = more_fields g.A.Archived.Portable.shape g.A.Archive.spelling from_second in
    let x : g.row.A.Denot × (g.row.B.Denot × (g.row.C.Denot × (g.row.D.Denot × Unit {0}))) = (c.args.tuple.now.0, (c.args.tuple.now.1, (c.args.tuple.now.2, (c.args.tuple.now.3, tt {0})))) in
    let old = c.args.serializer.now in
    let room = c.requires.room in
    let st = c.requires.state.state in
    let at = c.requires.state.is_at in
    let none = reached_none m all x old st at in
    let by_first = c.requires.writes_first _ _ _ _ room c.requires.state c.in_ok-a.ensures st at in
    let one = reached_next m all x old st g.A.Archived.Portable.shape g.A.Archive.spelling from_second x _ st old none _ _ by_first.0 by_first.1.0 by_first.1.1 by_first.1.2 in
    let quiet_one = one.wrote.is_quiet in
    let by_second = c.requires.writes_second _ _ _ _ (omega arith) (record { state = _; is_at = one.is_at }) c.in_ok-b.ensures _ one.is_at in
    let two = reached_next m all x old st g.B.Archived.Portable.shape g.B.Archive.spelling from_third x.1 _ _ _ one _ _ by_second.0 by_second.1.0 by_second.1.1 by_second.1.2 in
    let quiet_two = two.wrote.is_quiet in
    c.requires.takes_third _ _ (0, omega arith, refl) (omega arith) (record { state = _; is_at = two.is_at })

pub returns-in_err-c : goal.returns-in_err-c
returns-in_err-c g c = λ st at.
    let passed : c.from_residual-in_err-c.result ≡ Err c.in_err-c.field-0.0 = search rules in
    let m : WriterMembers g.row.S.Denot = record { known = g.S.Registry.known; pos = g.S.Positional.pos; OBSERVABLE = g.S.Writer.OBSERVABLE; COUNTS = g.S.Writer.COUNTS; contents = g.S.Writer.contents; failures = g.S.Writer.failures; last_error = g.S.Writer.last_error } in
    let from_fourth = more_fields g.D.Archived.Portable.shape g.D.Archive.spelling no_fields in
    let from_third = more_fields g.C.Archived.Portable.shape g.C.Archive.spelling from_fourth in
    let from_second = more_fields g.B.Archived.Portable.shape g.B.Archive.spelling from_third in
    let all = more_fields g.A.Archived.Portable.shape g.A.Archive.spelling from_second in
    let x : g.row.A.Denot × (g.row.B.Denot × (g.row.C.Denot × (g.row.D.Denot × Unit {0}))) = (c.args.tuple.now.0, (c.args.tuple.now.1, (c.args.tuple.now.2, (c.args.tuple.now.3, tt {0})))) in
    let old = c.args.serializer.now in
    let room = c.requires.room in
    let none = reached_none m all x old st at in
    let by_first = c.requires.writes_first _ _ _ _ room c.requires.state c.in_ok-a.ensures st at in
    let one = reached_next m all x old st g.A.Archived.Portable.shape g.A.Archive.spelling from_second x _ st old none _ _ by_first.0 by_first.1.0 by_first.1.1 by_first.1.2 in
    let quiet_one = one.wrote.is_quiet in
    let by_second = c.requires.writes_second _ _ _ _ (omega arith) (record { state = _; is_at = one.is_at }) c.in_ok-b.ensures _ one.is_at in
    let two = reached_next m all x old st g.B.Archived.Portable.shape g.B.Archive.spelling from_third x.1 _ _ _ one _ _ by_second.0 by_second.1.0 by_second.1.1 by_second.1.2 in
    let quiet_two = two.wrote.is_quiet in
    rw passed (reached_stopped m all x old st g.C.Archived.Portable.shape g.C.Archive.spelling from_fourth x.1.1 _ _ _ two _ _ (c.requires.writes_third _ _ _ _ (omega arith) (record { state = _; is_at = two.is_at }) c.in_err-c.ensures _ two.is_at))

pub fourth-requires : goal.fourth-requires
fourth-requires g c =
    let m : WriterMembers g.row.S.Denot = record { known = g.S.Registry.known; pos = g.S.Positional.pos; OBSERVABLE = g.S.Writer.OBSERVABLE; COUNTS = g.S.Writer.COUNTS; contents = g.S.Writer.contents; failures = g.S.Writer.failures; last_error = g.S.Writer.last_error } in
    let from_fourth = more_fields g.D.Archived.Portable.shape g.D.Archive.spelling no_fields in
    let from_third = more_fields g.C.Archived.Portable.shape g.C.Archive.spelling from_fourth in
    let from_second = more_fields g.B.Archived.Portable.shape g.B.Archive.spelling from_third in
    let all = more_fields g.A.Archived.Portable.shape g.A.Archive.spelling from_second in
    let x : g.row.A.Denot × (g.row.B.Denot × (g.row.C.Denot × (g.row.D.Denot × Unit {0}))) = (c.args.tuple.now.0, (c.args.tuple.now.1, (c.args.tuple.now.2, (c.args.tuple.now.3, tt {0})))) in
    let old = c.args.serializer.now in
    let room = c.requires.room in
    let st = c.requires.state.state in
    let at = c.requires.state.is_at in
    let none = reached_none m all x old st at in
    let by_first = c.requires.writes_first _ _ _ _ room c.requires.state c.in_ok-a.ensures st at in
    let one = reached_next m all x old st g.A.Archived.Portable.shape g.A.Archive.spelling from_second x _ st old none _ _ by_first.0 by_first.1.0 by_first.1.1 by_first.1.2 in
    let quiet_one = one.wrote.is_quiet in
    let by_second = c.requires.writes_second _ _ _ _ (omega arith) (record { state = _; is_at = one.is_at }) c.in_ok-b.ensures _ one.is_at in
    let two = reached_next m all x old st g.B.Archived.Portable.shape g.B.Archive.spelling from_third x.1 _ _ _ one _ _ by_second.0 by_second.1.0 by_second.1.1 by_second.1.2 in
    let quiet_two = two.wrote.is_quiet in
    let by_third = c.requires.writes_third _ _ _ _ (omega arith) (record { state = _; is_at = two.is_at }) c.in_ok-c.ensures _ two.is_at in
    let three = reached_next m all x old st g.C.Archived.Portable.shape g.C.Archive.spelling from_fourth x.1.1 _ _ _ two _ _ by_third.0 by_third.1.0 by_third.1.1 by_third.1.2 in
    let quiet_three = three.wrote.is_quiet in
    c.requires.takes_fourth _ _ (0, omega arith, refl) (omega arith) (record { state = _; is_at = three.is_at })

pub returns-in_err-d : goal.returns-in_err-d
returns-in_err-d g c = λ st at.
    let passed : c.from_residual-in_err-d.result ≡ Err c.in_err-d.field-0.0 = search rules in
    let m : WriterMembers g.row.S.Denot = record { known = g.S.Registry.known; pos = g.S.Positional.pos; OBSERVABLE = g.S.Writer.OBSERVABLE; COUNTS = g.S.Writer.COUNTS; contents = g.S.Writer.contents; failures = g.S.Writer.failures; last_error = g.S.Writer.last_error } in
    let from_fourth = more_fields g.D.Archived.Portable.shape g.D.Archive.spelling no_fields in
    let from_third = more_fields g.C.Archived.Portable.shape g.C.Archive.spelling from_fourth in
    let from_second = more_fields g.B.Archived.Portable.shape g.B.Archive.spelling from_third in
    let all = more_fields g.A.Archived.Portable.shape g.A.Archive.spelling from_second in
    let x : g.row.A.Denot × (g.row.B.Denot × (g.row.C.Denot × (g.row.D.Denot × Unit {0}))) = (c.args.tuple.now.0, (c.args.tuple.now.1, (c.args.tuple.now.2, (c.args.tuple.now.3, tt {0})))) in
    let old = c.args.serializer.now in
    let room = c.requires.room in
    let none = reached_none m all x old st at in
    let by_first = c.requires.writes_first _ _ _ _ room c.requires.state c.in_ok-a.ensures st at in
    let one = reached_next m all x old st g.A.Archived.Portable.shape g.A.Archive.spelling from_second x _ st old none _ _ by_first.0 by_first.1.0 by_first.1.1 by_first.1.2 in
    let quiet_one = one.wrote.is_quiet in
    let by_second = c.requires.writes_second _ _ _ _ (omega arith) (record { state = _; is_at = one.is_at }) c.in_ok-b.ensures _ one.is_at in
    let two = reached_next m all x old st g.B.Archived.Portable.shape g.B.Archive.spelling from_third x.1 _ _ _ one _ _ by_second.0 by_second.1.0 by_second.1.1 by_second.1.2 in
    let quiet_two = two.wrote.is_quiet in
    let by_third = c.requires.writes_third _ _ _ _ (omega arith) (record { state = _; is_at = two.is_at }) c.in_ok-c.ensures _ two.is_at in
    let three = reached_next m all x old st g.C.Archived.Portable.shape g.C.Archive.spelling from_fourth x.1.1 _ _ _ two _ _ by_third.0 by_third.1.0 by_third.1.1 by_third.1.2 in
    let quiet_three = three.wrote.is_quiet in
    rw passed (reached_stopped m all x old st g.D.Archived.Portable.shape g.D.Archive.spelling no_fields x.1.1.1 _ _ _ three _ _ (c.requires.writes_fourth _ _ _ _ (omega arith) (record { state = _; is_at = three.is_at }) c.in_err-d.ensures _ three.is_at))

pub returns : goal.returns
returns g c = λ st at.
    let m : WriterMembers g.row.S.Denot = record { known = g.S.Registry.known; pos = g.S.Positional.pos; OBSERVABLE = g.S.Writer.OBSERVABLE; COUNTS = g.S.Writer.COUNTS; contents = g.S.Writer.contents; failures = g.S.Writer.failures; last_error = g.S.Writer.last_error } in
    let from_fourth = more_fields g.D.Archived.Portable.shape g.D.Archive.spelling no_fields in
    let from_third = more_fields g.C.Archived.Portable.shape g.C.Archive.spelling from_fourth in
    let from_second = more_fields g.B.Archived.Portable.shape g.B.Archive.spelling from_third in
    let all = more_fields g.A.Archived.Portable.shape g.A.Archive.spelling from_second in
    let x : g.row.A.Denot × (g.row.B.Denot × (g.row.C.Denot × (g.row.D.Denot × Unit {0}))) = (c.args.tuple.now.0, (c.args.tuple.now.1, (c.args.tuple.now.2, (c.args.tuple.now.3, tt {0})))) in
    let old = c.args.serializer.now in
    let room = c.requires.room in
    let none = reached_none m all x old st at in
    let by_first = c.requires.writes_first _ _ _ _ room c.requires.state c.in_ok-a.ensures st at in
    let one = reached_next m all x old st g.A.Archived.Portable.shape g.A.Archive.spelling from_second x _ st old none _ _ by_first.0 by_first.1.0 by_first.1.1 by_first.1.2 in
    let quiet_one = one.wrote.is_quiet in
    let by_second = c.requires.writes_second _ _ _ _ (omega arith) (record { state = _; is_at = one.is_at }) c.in_ok-b.ensures _ one.is_at in
    let two = reached_next m all x old st g.B.Archived.Portable.shape g.B.Archive.spelling from_third x.1 _ _ _ one _ _ by_second.0 by_second.1.0 by_second.1.1 by_second.1.2 in
    let quiet_two = two.wrote.is_quiet in
    let by_third = c.requires.writes_third _ _ _ _ (omega arith) (record { state = _; is_at = two.is_at }) c.in_ok-c.ensures _ two.is_at in
    let three = reached_next m all x old st g.C.Archived.Portable.shape g.C.Archive.spelling from_fourth x.1.1 _ _ _ two _ _ by_third.0 by_third.1.0 by_third.1.1 by_third.1.2 in
    let quiet_three = three.wrote.is_quiet in
    let by_fourth = c.requires.writes_fourth _ _ _ _ (omega arith) (record { state = _; is_at = three.is_at }) c.in_ok-d.ensures _ three.is_at in
    let four = reached_next m all x old st g.D.Archived.Portable.shape g.D.Archive.spelling no_fields x.1.1.1 _ _ _ three _ _ by_fourth.0 by_fourth.1.0 by_fourth.1.1 by_fourth.1.2 in
    let quiet_four = four.wrote.is_quiet in
    let done = reached_all m all x old st _ _ _ _ four in
    (done.0, (ap (λ r. (r.0, r.1.0, r.1.1.0, r.1.1.1.0)) done.1.0, done.1.1, done.1.2))
