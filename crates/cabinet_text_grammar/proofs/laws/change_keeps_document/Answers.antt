use Rattle.cabinet_text_grammar.proofs.Changes.{change_keeps_document}
use Rattle.cabinet_text_grammar.proofs.laws.change_keeps_document.Goals as goal

pub returns : goal.returns
returns c = change_keeps_document
