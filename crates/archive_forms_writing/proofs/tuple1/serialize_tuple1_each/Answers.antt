use Rattle.std.proofs.Common.{rules, ◌≡◌, Err, ap}
use Rattle.archive_shape_layout.specs.Writing.{WriterMembers}
use Rattle.archive_forms_laws.specs.Fields.{no_fields, more_fields}
use Rattle.archive_forms_writing.proofs.Structs.{reached_none, reached_next, reached_stopped, reached_all}
use Rattle.archive_forms_writing.proofs.tuple1.serialize_tuple1_each.Goals as goal

pub returns-in_err-a : goal.returns-in_err-a
returns-in_err-a g c = λ st at.
    let m : WriterMembers g.row.S.Denot = record { known = g.S.Registry.known; pos = g.S.Positional.pos; OBSERVABLE = g.S.Writer.OBSERVABLE; COUNTS = g.S.Writer.COUNTS; contents = g.S.Writer.contents; failures = g.S.Writer.failures; last_error = g.S.Writer.last_error } in
    let all = more_fields g.A.Archived.Portable.shape g.A.Archive.spelling no_fields in
    let x : g.row.A.Denot × Unit {0} = (c.args.tuple.now.0, tt {0}) in
    let old = c.args.serializer.now in
    let room = c.requires.room in
    let none = reached_none m all x old st at in
    let passed : c.from_residual.result ≡ Err c.in_err-a.field-0.0 = search rules in
    rw passed (reached_stopped m all x old st g.A.Archived.Portable.shape g.A.Archive.spelling no_fields x _ st old none _ _ (c.requires.writes_first _ _ _ _ room c.requires.state c.in_err-a.ensures st at))

pub returns : goal.returns
returns g c = λ st at.
    let m : WriterMembers g.row.S.Denot = record { known = g.S.Registry.known; pos = g.S.Positional.pos; OBSERVABLE = g.S.Writer.OBSERVABLE; COUNTS = g.S.Writer.COUNTS; contents = g.S.Writer.contents; failures = g.S.Writer.failures; last_error = g.S.Writer.last_error } in
    let all = more_fields g.A.Archived.Portable.shape g.A.Archive.spelling no_fields in
    let x : g.row.A.Denot × Unit {0} = (c.args.tuple.now.0, tt {0}) in
    let old = c.args.serializer.now in
    let room = c.requires.room in
    let none = reached_none m all x old st at in
    let by_first = c.requires.writes_first _ _ _ _ room c.requires.state c.in_ok-a.ensures st at in
    let one = reached_next m all x old st g.A.Archived.Portable.shape g.A.Archive.spelling no_fields x _ st old none _ _ by_first.0 by_first.1.0 by_first.1.1 by_first.1.2 in
    let quiet_one = one.wrote.is_quiet in
    let done = reached_all m all x old st _ _ _ _ one in
    (done.0, (ap (λ r. record { 0 = r.0 }) done.1.0, done.1.1, done.1.2))
