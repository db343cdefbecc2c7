use Rattle.cabinet_text_grammar.proofs.ExamplesFaults.{unused_whole}
use Rattle.cabinet_text_grammar.proofs.examples.unused_whole.Goals as goal

pub returns : goal.returns
returns c = unused_whole
