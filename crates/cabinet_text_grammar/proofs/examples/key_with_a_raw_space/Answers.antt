use Rattle.cabinet_text_grammar.proofs.ExamplesFaults.{key_with_a_raw_space}
use Rattle.cabinet_text_grammar.proofs.examples.key_with_a_raw_space.Goals as goal

pub returns : goal.returns
returns c = key_with_a_raw_space
