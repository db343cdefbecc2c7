use Rattle.cabinet_text_grammar.proofs.ExamplesFaults.{no_wholes}
use Rattle.cabinet_text_grammar.proofs.examples.no_wholes.Goals as goal

pub returns : goal.returns
returns c = no_wholes
