use Rattle.cabinet_examples.proofs.Boxes.{map_with_a_key_of_zero}
use Rattle.cabinet_examples.proofs.map_with_a_key_of_zero.Goals as goal

pub returns : goal.returns
returns c = map_with_a_key_of_zero
