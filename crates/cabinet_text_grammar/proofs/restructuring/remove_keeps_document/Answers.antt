use Rattle.cabinet_text_grammar.proofs.Restructured.{remove_keeps_document}
use Rattle.cabinet_text_grammar.proofs.restructuring.remove_keeps_document.Goals as goal

pub returns : goal.returns
returns c = remove_keeps_document
