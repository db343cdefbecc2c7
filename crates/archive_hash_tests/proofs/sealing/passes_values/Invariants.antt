use Rattle.std.proofs.Common.{ℕ, List}
use Rattle.archive_hash_maps.specs.Walks.{BegunMap, HasValuesWritten}
use Rattle.archive_hash_maps.specs.Cursors.{HasValues}
use Rattle.archive_hash_tests.proofs.sealing.passes_values.Given as goal

abbrev pub invariant-loop-at : goal.invariant-loop-at
invariant-loop-at g l =
    record {
      begun : BegunMap g.K.Portable.shape g.V.Portable.shape g.K.Portable.knows g.V.Portable.knows;
      left : List ℕ;
      has : HasValues begun l.values left;
      written : HasValuesWritten begun l.values.entries.bytes.now;
    }

abbrev pub decreases-loop-at : goal.decreases-loop-at
decreases-loop-at g l = l.values.entries.walk.left
