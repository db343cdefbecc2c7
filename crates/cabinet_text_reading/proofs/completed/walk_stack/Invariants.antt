use Rattle.std.proofs.Common.{drop}
use Rattle.cabinet_text_reading.proofs.Roots.{IsStackBefore}
use Rattle.cabinet_text_reading.proofs.completed.walk_stack.Given as goal

abbrev pub invariant-loop-frame : goal.invariant-loop-frame
invariant-loop-frame l = IsStackBefore l.wholes l.stack (drop l.frame-index l.stack) l.next
