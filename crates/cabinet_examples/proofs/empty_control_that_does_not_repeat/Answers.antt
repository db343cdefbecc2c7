use Rattle.cabinet_examples.proofs.Refused.{empty_control_that_does_not_repeat}
use Rattle.cabinet_examples.proofs.empty_control_that_does_not_repeat.Goals as goal

pub returns : goal.returns
returns c = empty_control_that_does_not_repeat
