use Rattle.cabinet_examples.proofs.Refused.{broken_long_text}
use Rattle.cabinet_examples.proofs.broken_long_text.Goals as goal

pub returns : goal.returns
returns c = broken_long_text
