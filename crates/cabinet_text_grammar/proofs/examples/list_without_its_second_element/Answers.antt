use Rattle.cabinet_text_grammar.proofs.ExamplesFaults.{list_without_its_second_element}
use Rattle.cabinet_text_grammar.proofs.examples.list_without_its_second_element.Goals as goal

pub returns : goal.returns
returns c = list_without_its_second_element
