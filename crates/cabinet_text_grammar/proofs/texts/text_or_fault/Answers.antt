use Rattle.cabinet_text_grammar.proofs.Whole.{text_or_fault}
use Rattle.cabinet_text_grammar.proofs.texts.text_or_fault.Goals as goal

pub returns : goal.returns
returns c = text_or_fault
