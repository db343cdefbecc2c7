use Rattle.cabinet_text_grammar.proofs.ExamplesFaults.{whole_in_itself}
use Rattle.cabinet_text_grammar.proofs.examples.whole_in_itself.Goals as goal

pub returns : goal.returns
returns c = whole_in_itself
