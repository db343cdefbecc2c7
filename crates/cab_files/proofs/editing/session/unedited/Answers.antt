use Rattle.cab_files.proofs.Sessions.{saves_none}
use Rattle.cab_files.proofs.editing.session.unedited.Goals as goal

pub returns-in-Ok-clause-edits : goal.returns-in-Ok-clause-edits
returns-in-Ok-clause-edits c = saves_none _ c.in-Ok.ensures.accepted.0 c.in-Ok.ensures.accepted.1
