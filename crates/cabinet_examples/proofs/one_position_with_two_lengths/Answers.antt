use Rattle.cabinet_examples.proofs.Boxes.{one_position_with_two_lengths}
use Rattle.cabinet_examples.proofs.one_position_with_two_lengths.Goals as goal

pub returns : goal.returns
returns c = one_position_with_two_lengths
