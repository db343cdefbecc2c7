use Rattle.cabinet_text_grammar.proofs.ExamplesFaults.{count_with_a_leading_zero}
use Rattle.cabinet_text_grammar.proofs.examples.count_with_a_leading_zero.Goals as goal

pub returns : goal.returns
returns c = count_with_a_leading_zero
