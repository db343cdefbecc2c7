use Rattle.cabinet_text_grammar.proofs.Faults.{one_document}
use Rattle.cabinet_text_grammar.proofs.laws.one_document.Goals as goal

pub returns : goal.returns
returns c = one_document
