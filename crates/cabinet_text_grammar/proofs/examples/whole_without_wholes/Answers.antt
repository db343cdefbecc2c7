use Rattle.cabinet_text_grammar.proofs.ExamplesFaults.{whole_without_wholes}
use Rattle.cabinet_text_grammar.proofs.examples.whole_without_wholes.Goals as goal

pub returns : goal.returns
returns c = whole_without_wholes
