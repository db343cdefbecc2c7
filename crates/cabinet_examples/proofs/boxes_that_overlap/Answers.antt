use Rattle.cabinet_examples.proofs.Boxes.{boxes_that_overlap}
use Rattle.cabinet_examples.proofs.boxes_that_overlap.Goals as goal

pub returns : goal.returns
returns c = boxes_that_overlap
