use Rattle.cabinet_text_grammar.proofs.WithoutWholes.{text_without_wholes}
use Rattle.cabinet_text_grammar.proofs.laws.text_without_wholes.Goals as goal

pub returns : goal.returns
returns c = text_without_wholes
