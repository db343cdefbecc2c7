use Rattle.cabinet_text_grammar.proofs.Answered.{edited_text}
use Rattle.cabinet_text_grammar.proofs.examples.edited_text.Goals as goal

pub returns : goal.returns
returns c = edited_text
