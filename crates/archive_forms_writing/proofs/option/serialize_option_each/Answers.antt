use Rattle.std.proofs.Common.{rules, ◌≡◌, Err}
use Rattle.archive_shape_layout.specs.Writing.{WriterMembers}
use Rattle.archive_forms_writing.proofs.Options.{some_wrote, some_stopped}
use Rattle.archive_forms_writing.proofs.option.serialize_option_each.Goals as goal

pub returns-in_err-step-in-Some : goal.returns-in_err-step-in-Some
returns-in_err-step-in-Some g c = λ st at.
    let s : WriterMembers g.row.S.Denot = record { known = g.S.Registry.known; pos = g.S.Positional.pos; OBSERVABLE = g.S.Writer.OBSERVABLE; COUNTS = g.S.Writer.COUNTS; contents = g.S.Writer.contents; failures = g.S.Writer.failures; last_error = g.S.Writer.last_error } in
    let passed : c.from_residual.result ≡ Err c.in_err-step-in-Some.field-0.0 = search rules in
    rw passed (some_stopped g.T.Archived.Portable.shape g.T.Archive.spelling s _ _ st _ _ c.in-Some.is _ (c.requires.writes _ _ _ _ c.requires.room c.requires.state c.in_err-step-in-Some.ensures st at))

pub returns : goal.returns
returns g c = λ st at.
    let s : WriterMembers g.row.S.Denot = record { known = g.S.Registry.known; pos = g.S.Positional.pos; OBSERVABLE = g.S.Writer.OBSERVABLE; COUNTS = g.S.Writer.COUNTS; contents = g.S.Writer.contents; failures = g.S.Writer.failures; last_error = g.S.Writer.last_error } in
    let l = c.requires.writes _ _ _ _ c.requires.room c.requires.state c.in_ok-step-in-Some.ensures st at in
    some_wrote g.T.Archived.Portable.shape g.T.Archive.spelling s _ _ st _ _ c.in-Some.is _ l.0 l.1.0 l.1.1 l.1.2
