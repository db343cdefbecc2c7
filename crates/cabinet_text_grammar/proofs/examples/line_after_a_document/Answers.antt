use Rattle.cabinet_text_grammar.proofs.ExamplesFaults.{line_after_a_document}
use Rattle.cabinet_text_grammar.proofs.examples.line_after_a_document.Goals as goal

pub returns : goal.returns
returns c = line_after_a_document
