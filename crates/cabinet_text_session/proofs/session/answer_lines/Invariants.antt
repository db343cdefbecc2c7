use Rattle.std.proofs.Common.{length}
use Rattle.cabinet_text_session.proofs.session.answer_lines.Given as goal

abbrev pub invariant-loop-rest : goal.invariant-loop-rest
invariant-loop-rest l = record {}

abbrev pub decreases-loop-rest : goal.decreases-loop-rest
decreases-loop-rest l = length l.rest
