use Rattle.cabinet_text_grammar.proofs.ExamplesFaults.{last_line_without_a_newline}
use Rattle.cabinet_text_grammar.proofs.examples.last_line_without_a_newline.Goals as goal

pub returns : goal.returns
returns c = last_line_without_a_newline
