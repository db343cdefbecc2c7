use Rattle.cabinet_text_grammar.proofs.ExamplesFaults.{ordered_key_twice}
use Rattle.cabinet_text_grammar.proofs.examples.ordered_key_twice.Goals as goal

pub returns : goal.returns
returns c = ordered_key_twice
