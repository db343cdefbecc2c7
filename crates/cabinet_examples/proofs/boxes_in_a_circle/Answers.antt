use Rattle.cabinet_examples.proofs.Boxes.{boxes_in_a_circle}
use Rattle.cabinet_examples.proofs.boxes_in_a_circle.Goals as goal

pub returns : goal.returns
returns c = boxes_in_a_circle
