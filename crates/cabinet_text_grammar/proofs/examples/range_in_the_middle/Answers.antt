use Rattle.cabinet_text_grammar.proofs.Answered.{range_in_the_middle}
use Rattle.cabinet_text_grammar.proofs.examples.range_in_the_middle.Goals as goal

pub returns : goal.returns
returns c = range_in_the_middle
