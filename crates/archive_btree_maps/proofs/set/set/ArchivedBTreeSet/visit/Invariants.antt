use Rattle.std.proofs.Common.{length, All}
use Rattle.archive_btree_maps.specs.SetVisits.{VisitsAll, BreaksWith}
use Rattle.archive_btree_maps.proofs.set.set.ArchivedBTreeSet.visit.Given as goal

abbrev pub invariant-loop-key : goal.invariant-loop-key
invariant-loop-key g l =
    record {
      callable : All (λ key. (f : _) → goal.F-pre g f key) l.keys;
      ends : (after : _) → VisitsAll (goal.F-step g) l.visit after l.keys → VisitsAll (goal.F-step g) l.fn.visit after l.initial.keys;
      breaks : (after : _) (value : _) → BreaksWith (goal.F-step g) l.visit after l.keys value → BreaksWith (goal.F-step g) l.fn.visit after l.initial.keys value;
    }

abbrev pub decreases-loop-key : goal.decreases-loop-key
decreases-loop-key g l = length l.keys
