use Rattle.cabinet_examples.proofs.Refused.{thirty_three_levels}
use Rattle.cabinet_examples.proofs.thirty_three_levels.Goals as goal

pub returns : goal.returns
returns c = thirty_three_levels
