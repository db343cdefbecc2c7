use Rattle.cabinet_text_grammar.proofs.Answered.{reversed_range}
use Rattle.cabinet_text_grammar.proofs.examples.reversed_range.Goals as goal

pub returns : goal.returns
returns c = reversed_range
