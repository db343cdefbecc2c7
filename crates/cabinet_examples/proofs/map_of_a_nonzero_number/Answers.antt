use Rattle.cabinet_examples.proofs.Boxes.{map_of_a_nonzero_number}
use Rattle.cabinet_examples.proofs.map_of_a_nonzero_number.Goals as goal

pub returns : goal.returns
returns c = map_of_a_nonzero_number
