use Rattle.cabinet_text_grammar.proofs.Restructured.{put_keeps_document}
use Rattle.cabinet_text_grammar.proofs.restructuring.put_keeps_document.Goals as goal

pub returns : goal.returns
returns c = put_keeps_document
