use Rattle.cabinet_text_grammar.proofs.Answered.{empty_range}
use Rattle.cabinet_text_grammar.proofs.examples.empty_range.Goals as goal

pub returns : goal.returns
returns c = empty_range
