use Rattle.cabinet_text_grammar.proofs.ExamplesFaults.{option_without_its_node}
use Rattle.cabinet_text_grammar.proofs.examples.option_without_its_node.Goals as goal

pub returns : goal.returns
returns c = option_without_its_node
