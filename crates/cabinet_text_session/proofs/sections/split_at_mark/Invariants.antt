use Rattle.std.proofs.Common.{◌≤◌, length}
use Rattle.cabinet_text_session.proofs.sections.split_at_mark.Given as goal

abbrev pub invariant-loop-mark : goal.invariant-loop-mark
invariant-loop-mark l = record { shorter : length l.rest ≤ length l.fn.input }

abbrev pub decreases-loop-mark : goal.decreases-loop-mark
decreases-loop-mark l = length l.rest
