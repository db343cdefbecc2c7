use Rattle.cabinet_examples.proofs.Refused.{surrogate_char}
use Rattle.cabinet_examples.proofs.surrogate_char.Goals as goal

pub returns : goal.returns
returns c = surrogate_char
