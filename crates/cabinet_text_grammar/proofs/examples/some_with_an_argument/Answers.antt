use Rattle.cabinet_text_grammar.proofs.ExamplesFaults.{some_with_an_argument}
use Rattle.cabinet_text_grammar.proofs.examples.some_with_an_argument.Goals as goal

pub returns : goal.returns
returns c = some_with_an_argument
