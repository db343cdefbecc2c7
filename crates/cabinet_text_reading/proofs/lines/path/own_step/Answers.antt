use Rattle.cabinet_text_reading.proofs.Paths.{key_refused}
use Rattle.cabinet_text_reading.proofs.lines.path.own_step.Goals as goal

pub returns-in-Err-clause-refused : goal.returns-in-Err-clause-refused
returns-in-Err-clause-refused c = rw c.in-Key.is (key_refused c.in-Key.argument.now c.in-Err.refusal c.in-Err.ensures.refused)
