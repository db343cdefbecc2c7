use Rattle.cabinet_examples.proofs.Refused.{broken_inline_text}
use Rattle.cabinet_examples.proofs.broken_inline_text.Goals as goal

pub returns : goal.returns
returns c = broken_inline_text
