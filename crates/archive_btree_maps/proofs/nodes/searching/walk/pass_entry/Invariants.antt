use Rattle.std.proofs.Common.{◌≡◌, ℕ}
use Rattle.archive_btree_maps.specs.Walking.{stack_items, IsStack}
use Rattle.archive_btree_maps.specs.Stepping.{AreReached}
use Rattle.archive_btree_maps.proofs.nodes.searching.walk.pass_entry.Given as goal

abbrev pub invariant-loop-stack : goal.invariant-loop-stack
invariant-loop-stack l =
    record {
      stands : IsStack l.bytes l.layout l.stack.nodes l.stack.nexts l.stack.depth;
      left :
          stack_items l.bytes l.layout l.fn.stack.nodes l.fn.stack.nexts l.fn.stack.depth
          ≡ stack_items l.bytes l.layout l.stack.nodes l.stack.nexts l.stack.depth;
      reached :
          (root : ℕ) → AreReached l.bytes l.layout root l.fn.stack.nodes l.fn.stack.depth
          → AreReached l.bytes l.layout root l.stack.nodes l.stack.depth;
    }

abbrev pub decreases-loop-stack : goal.decreases-loop-stack
decreases-loop-stack l = l.stack.depth
