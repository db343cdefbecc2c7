use Rattle.std.proofs.Common.{ℕ, List}
use Rattle.archive_hash_maps.specs.Walks.{BegunTable, IsWritten}
use Rattle.archive_hash_maps.specs.Cursors.{HasItems}
use Rattle.archive_hash_tests.proofs.sealing.passes_items.Given as goal

abbrev pub invariant-loop-at : goal.invariant-loop-at
invariant-loop-at g l =
    record {
      begun : BegunTable g.T.Portable.shape g.T.Portable.knows;
      left : List ℕ;
      has : HasItems begun l.items left;
      written : IsWritten begun l.items.bytes.now;
    }

abbrev pub decreases-loop-at : goal.decreases-loop-at
decreases-loop-at g l = l.items.walk.left
