use Rattle.cabinet_examples.proofs.Refused.{leaf_of_six}
use Rattle.cabinet_examples.proofs.leaf_of_six.Goals as goal

pub returns : goal.returns
returns c = leaf_of_six
