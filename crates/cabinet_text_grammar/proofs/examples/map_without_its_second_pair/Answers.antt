use Rattle.cabinet_text_grammar.proofs.ExamplesFaults.{map_without_its_second_pair}
use Rattle.cabinet_text_grammar.proofs.examples.map_without_its_second_pair.Goals as goal

pub returns : goal.returns
returns c = map_without_its_second_pair
