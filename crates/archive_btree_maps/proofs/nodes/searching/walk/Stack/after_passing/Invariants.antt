use Rattle.std.proofs.Common.{◌-◌}
use Rattle.std.specs.Prelude.{IfSome}
use Rattle.archive_btree_maps.specs.Walking.{node_items}
use Rattle.archive_btree_maps.specs.Stepping.{IsReached, AreReached}
use Rattle.archive_btree_maps.proofs.Passing.{IsPassing}
use Rattle.archive_btree_maps.proofs.nodes.searching.walk.Stack.after_passing.Given as goal

abbrev pub invariant-loop-child : goal.invariant-loop-child
invariant-loop-child g l =
    record {
      passing : IsPassing l.bytes l.layout (goal.F-pre g) (goal.F-post g) l.passes l.stack.nodes l.stack.nexts l.stack.depth l.child (node_items l.bytes l.layout 32 l.root);
      reached : AreReached l.bytes l.layout l.root l.stack.nodes l.stack.depth × IfSome l.child (IsReached l.bytes l.layout l.root l.stack.depth);
    }

abbrev pub decreases-loop-child : goal.decreases-loop-child
decreases-loop-child g l = 32 - l.stack.depth
