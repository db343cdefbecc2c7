use Rattle.cabinet_examples.proofs.Refused.{one_position_with_two_shapes}
use Rattle.cabinet_examples.proofs.one_position_with_two_shapes.Goals as goal

pub returns : goal.returns
returns c = one_position_with_two_shapes
