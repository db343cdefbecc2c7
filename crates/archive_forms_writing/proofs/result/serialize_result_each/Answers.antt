use Rattle.std.proofs.Common.{rules, ◌≡◌, Err}
use Rattle.archive_shape_layout.specs.Writing.{WriterMembers}
use Rattle.archive_forms_writing.proofs.Results.{value_wrote, value_stopped, error_wrote, error_stopped}
use Rattle.archive_forms_writing.proofs.result.serialize_result_each.Goals as goal

pub returns-in_err-step-in-Ok : goal.returns-in_err-step-in-Ok
returns-in_err-step-in-Ok g c = λ st at.
    let s : WriterMembers g.row.S.Denot = record { known = g.S.Registry.known; pos = g.S.Positional.pos; OBSERVABLE = g.S.Writer.OBSERVABLE; COUNTS = g.S.Writer.COUNTS; contents = g.S.Writer.contents; failures = g.S.Writer.failures; last_error = g.S.Writer.last_error } in
    let passed : c.from_residual.result ≡ Err c.in_err-step-in-Ok.field-0.0 = search rules in
    rw passed (value_stopped g.T.Archived.Portable.shape g.E.Archived.Portable.shape g.T.Archive.spelling g.E.Archive.spelling s _ _ st _ _ _ c.in-Ok.is (c.requires.writes _ _ _ _ c.requires.room c.requires.state c.in_err-step-in-Ok.ensures st at))

pub returns-in-Ok : goal.returns-in-Ok
returns-in-Ok g c = λ st at.
    let s : WriterMembers g.row.S.Denot = record { known = g.S.Registry.known; pos = g.S.Positional.pos; OBSERVABLE = g.S.Writer.OBSERVABLE; COUNTS = g.S.Writer.COUNTS; contents = g.S.Writer.contents; failures = g.S.Writer.failures; last_error = g.S.Writer.last_error } in
    let l = c.requires.writes _ _ _ _ c.requires.room c.requires.state c.in_ok-step-in-Ok.ensures st at in
    value_wrote g.T.Archived.Portable.shape g.E.Archived.Portable.shape g.T.Archive.spelling g.E.Archive.spelling s _ _ st _ _ _ c.in-Ok.is l.0 l.1.0 l.1.1 l.1.2

pub returns-in_err-step_of_error-in-Err : goal.returns-in_err-step_of_error-in-Err
returns-in_err-step_of_error-in-Err g c = λ st at.
    let s : WriterMembers g.row.S.Denot = record { known = g.S.Registry.known; pos = g.S.Positional.pos; OBSERVABLE = g.S.Writer.OBSERVABLE; COUNTS = g.S.Writer.COUNTS; contents = g.S.Writer.contents; failures = g.S.Writer.failures; last_error = g.S.Writer.last_error } in
    let passed : c.from_residual-in_err-step_of_error-in-Err.result ≡ Err c.in_err-step_of_error-in-Err.field-0.0 = search rules in
    rw passed (error_stopped g.T.Archived.Portable.shape g.E.Archived.Portable.shape g.T.Archive.spelling g.E.Archive.spelling s _ _ st _ _ _ c.in-Err.is (c.requires.writes_errors _ _ _ _ c.requires.room c.requires.state c.in_err-step_of_error-in-Err.ensures st at))

pub returns : goal.returns
returns g c = λ st at.
    let s : WriterMembers g.row.S.Denot = record { known = g.S.Registry.known; pos = g.S.Positional.pos; OBSERVABLE = g.S.Writer.OBSERVABLE; COUNTS = g.S.Writer.COUNTS; contents = g.S.Writer.contents; failures = g.S.Writer.failures; last_error = g.S.Writer.last_error } in
    let l = c.requires.writes_errors _ _ _ _ c.requires.room c.requires.state c.in_ok-step_of_error-in-Err.ensures st at in
    error_wrote g.T.Archived.Portable.shape g.E.Archived.Portable.shape g.T.Archive.spelling g.E.Archive.spelling s _ _ st _ _ _ c.in-Err.is l.0 l.1.0 l.1.1 l.1.2
