use Rattle.cabinet_text_grammar.proofs.ExamplesFaults.{equal_wholes}
use Rattle.cabinet_text_grammar.proofs.examples.equal_wholes.Goals as goal

pub returns : goal.returns
returns c = equal_wholes
