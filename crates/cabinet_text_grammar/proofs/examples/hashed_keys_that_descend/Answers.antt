use Rattle.cabinet_text_grammar.proofs.ExamplesFaults.{hashed_keys_that_descend}
use Rattle.cabinet_text_grammar.proofs.examples.hashed_keys_that_descend.Goals as goal

pub returns : goal.returns
returns c = hashed_keys_that_descend
