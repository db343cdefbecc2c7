use Rattle.cabinet_text_grammar.proofs.ExamplesFaults.{kept_key_twice}
use Rattle.cabinet_text_grammar.proofs.examples.kept_key_twice.Goals as goal

pub returns : goal.returns
returns c = kept_key_twice
