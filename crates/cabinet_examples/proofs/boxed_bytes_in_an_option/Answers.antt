use Rattle.cabinet_examples.proofs.Boxes.{boxed_bytes_in_an_option}
use Rattle.cabinet_examples.proofs.boxed_bytes_in_an_option.Goals as goal

pub returns : goal.returns
returns c = boxed_bytes_in_an_option
