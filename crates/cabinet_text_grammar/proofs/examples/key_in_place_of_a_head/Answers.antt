use Rattle.cabinet_text_grammar.proofs.ExamplesFaults.{key_in_place_of_a_head}
use Rattle.cabinet_text_grammar.proofs.examples.key_in_place_of_a_head.Goals as goal

pub returns : goal.returns
returns c = key_in_place_of_a_head
