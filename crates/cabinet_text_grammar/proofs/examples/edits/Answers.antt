use Rattle.cabinet_text_grammar.proofs.Answered.{edits}
use Rattle.cabinet_text_grammar.proofs.examples.edits.Goals as goal

pub returns : goal.returns
returns c = edits
