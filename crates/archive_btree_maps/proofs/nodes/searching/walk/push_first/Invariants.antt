use Rattle.std.proofs.Common.{ℕ, ◌-◌, [], ◌++◌}
use Rattle.std.specs.Prelude.{IfSome}
use Rattle.archive_btree_maps.specs.Walking.{child_items, node_items, stack_items}
use Rattle.archive_btree_maps.specs.Stepping.{IsReached, AreReached}
use Rattle.archive_btree_maps.proofs.Walked.{Pushes}
use Rattle.archive_btree_maps.proofs.nodes.searching.walk.push_first.Given as goal

abbrev pub invariant-loop-child : goal.invariant-loop-child
invariant-loop-child l =
    record {
      pushes :
          Pushes l.bytes l.layout l.stack.nodes l.stack.nexts l.stack.depth l.child []
          (child_items l.bytes l.layout (node_items l.bytes l.layout (32 - l.fn.stack.depth)) l.fn.child
          ++ stack_items l.bytes l.layout l.fn.stack.nodes l.fn.stack.nexts l.fn.stack.depth);
      reached :
          (root : ℕ) → AreReached l.bytes l.layout root l.fn.stack.nodes l.fn.stack.depth → IfSome l.fn.child (IsReached l.bytes l.layout root l.fn.stack.depth)
          → AreReached l.bytes l.layout root l.stack.nodes l.stack.depth × IfSome l.child (IsReached l.bytes l.layout root l.stack.depth);
    }

abbrev pub decreases-loop-child : goal.decreases-loop-child
decreases-loop-child l = 32 - l.stack.depth
