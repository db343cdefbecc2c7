use Rattle.cabinet_examples.proofs.Refused.{box_that_is_not_aligned}
use Rattle.cabinet_examples.proofs.box_that_is_not_aligned.Goals as goal

pub returns : goal.returns
returns c = box_that_is_not_aligned
