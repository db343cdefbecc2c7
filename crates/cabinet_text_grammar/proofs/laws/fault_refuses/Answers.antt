use Rattle.cabinet_text_grammar.proofs.Faults.{fault_refuses}
use Rattle.cabinet_text_grammar.proofs.laws.fault_refuses.Goals as goal

pub returns : goal.returns
returns c = fault_refuses
