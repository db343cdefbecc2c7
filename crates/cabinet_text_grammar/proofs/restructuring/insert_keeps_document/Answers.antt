use Rattle.cabinet_text_grammar.proofs.Restructured.{insert_keeps_document}
use Rattle.cabinet_text_grammar.proofs.restructuring.insert_keeps_document.Goals as goal

pub returns : goal.returns
returns c = insert_keeps_document
