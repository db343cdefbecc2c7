use Rattle.std.proofs.Common.{length}
use Rattle.cabinet_text_reading.specs.View.{state_of}
use Rattle.cabinet_text_reading.specs.Wholes.{table_in}
use Rattle.cabinet_text_reading.proofs.ReadTo.{IsReadTo}
use Rattle.cabinet_text_reading.proofs.text.read_trees.Given as goal

-- what was read is known, and the open containers, or the root, are the state after the lines that were taken
abbrev pub invariant-loop-next : goal.invariant-loop-next
invariant-loop-next l = IsReadTo l.text l.wholes (state_of (table_in l.wholes) l.next l.stack.items) l.begin l.rest l.line

abbrev pub decreases-loop-next : goal.decreases-loop-next
decreases-loop-next l = length l.rest
