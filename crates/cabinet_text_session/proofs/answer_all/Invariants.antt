use Rattle.std.proofs.Common.{length}
use Rattle.cabinet_text_session.proofs.answer_all.Given as goal

abbrev pub invariant-loop-section : goal.invariant-loop-section
invariant-loop-section l = record {}

abbrev pub decreases-loop-section : goal.decreases-loop-section
decreases-loop-section l = length l.rest
