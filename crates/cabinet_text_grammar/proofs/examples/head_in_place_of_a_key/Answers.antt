use Rattle.cabinet_text_grammar.proofs.ExamplesFaults.{head_in_place_of_a_key}
use Rattle.cabinet_text_grammar.proofs.examples.head_in_place_of_a_key.Goals as goal

pub returns : goal.returns
returns c = head_in_place_of_a_key
