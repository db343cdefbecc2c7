use Rattle.cabinet_examples.proofs.Boxes.{boxes_that_lead_before_the_buffer}
use Rattle.cabinet_examples.proofs.boxes_that_lead_before_the_buffer.Goals as goal

pub returns : goal.returns
returns c = boxes_that_lead_before_the_buffer
