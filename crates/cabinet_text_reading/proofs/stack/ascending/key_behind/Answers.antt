use Rattle.std.proofs.Common.{refl, inl, inr}
use Rattle.cabinet_text_reading.proofs.stack.ascending.key_behind.Goals as goal

pub returns-in-Some-clause-fault : goal.returns-in-Some-clause-fault
returns-in-Some-clause-fault c = inl c.in-Some.ensures

pub returns-in-Err-clause-fault : goal.returns-in-Err-clause-fault
returns-in-Err-clause-fault c = inr (refl, c.in_default.ensures)
