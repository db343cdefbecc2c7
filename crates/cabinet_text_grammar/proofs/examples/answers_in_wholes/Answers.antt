use Rattle.cabinet_text_grammar.proofs.Answered.{answers_in_wholes}
use Rattle.cabinet_text_grammar.proofs.examples.answers_in_wholes.Goals as goal

pub returns : goal.returns
returns c = answers_in_wholes
