use Rattle.cabinet_text_reading.proofs.Paths.{no_key, other_step}
use Rattle.cabinet_text_reading.proofs.lines.path.next_key.Goals as goal

pub returns-in_default : goal.returns-in_default
returns-in_default c = no_key _ c.in_default.ensures

pub returns-in_default-step : goal.returns-in_default-step
returns-in_default-step c = other_step _ _ _ c.in-Some.ensures.1 c.in_default-step.not-Key
