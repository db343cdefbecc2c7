use Rattle.cabinet_text_grammar.proofs.ExamplesFaults.{wholes_out_of_order}
use Rattle.cabinet_text_grammar.proofs.examples.wholes_out_of_order.Goals as goal

pub returns : goal.returns
returns c = wholes_out_of_order
