use Rattle.std.proofs.Common.{length}
use Rattle.archive_btree_maps.specs.Visiting.{VisitsAll, BreaksWith, IsCallableAt}
use Rattle.archive_btree_maps.specs.MapVisits.{MayCallAt, CallsAt}
use Rattle.archive_btree_maps.proofs.map.map.ArchivedBTreeMap.visit.Given as goal

abbrev pub invariant-loop-entry : goal.invariant-loop-entry
invariant-loop-entry g l =
    record {
      callable : IsCallableAt (MayCallAt (goal.F-pre g) l.fn.this.bytes) l.walk;
      ends :
          (after : _) → VisitsAll (CallsAt (goal.F-step g) l.fn.this.bytes) l.visit after l.walk
          → VisitsAll (CallsAt (goal.F-step g) l.fn.this.bytes) l.fn.visit after l.initial.walk;
      breaks :
          (after : _) (value : _) → BreaksWith (CallsAt (goal.F-step g) l.fn.this.bytes) l.visit after l.walk value
          → BreaksWith (CallsAt (goal.F-step g) l.fn.this.bytes) l.fn.visit after l.initial.walk value;
    }

abbrev pub decreases-loop-entry : goal.decreases-loop-entry
decreases-loop-entry g l = length l.walk
