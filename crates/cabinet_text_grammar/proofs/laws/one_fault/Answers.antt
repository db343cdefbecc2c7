use Rattle.cabinet_text_grammar.proofs.Faults.{one_fault}
use Rattle.cabinet_text_grammar.proofs.laws.one_fault.Goals as goal

pub returns : goal.returns
returns c = one_fault
