use Rattle.cabinet_text_grammar.proofs.ExamplesFaults.{wholes_on_a_later_line}
use Rattle.cabinet_text_grammar.proofs.examples.wholes_on_a_later_line.Goals as goal

pub returns : goal.returns
returns c = wholes_on_a_later_line
