use Rattle.cabinet_examples.proofs.Refused.{long_text_of_eight}
use Rattle.cabinet_examples.proofs.long_text_of_eight.Goals as goal

pub returns : goal.returns
returns c = long_text_of_eight
