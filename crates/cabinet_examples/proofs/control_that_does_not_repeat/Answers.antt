use Rattle.cabinet_examples.proofs.Refused.{control_that_does_not_repeat}
use Rattle.cabinet_examples.proofs.control_that_does_not_repeat.Goals as goal

pub returns : goal.returns
returns c = control_that_does_not_repeat
