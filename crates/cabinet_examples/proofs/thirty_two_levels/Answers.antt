use Rattle.cabinet_examples.proofs.Refused.{thirty_two_levels}
use Rattle.cabinet_examples.proofs.thirty_two_levels.Goals as goal

pub returns : goal.returns
returns c = thirty_two_levels
