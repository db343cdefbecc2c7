use Rattle.cabinet_examples.proofs.Refused.{truth_value_of_two}
use Rattle.cabinet_examples.proofs.truth_value_of_two.Goals as goal

pub returns : goal.returns
returns c = truth_value_of_two
