use Rattle.std.proofs.Common.{ℕ, List}
use Rattle.archive_hash_maps.specs.Walks.{BegunMap, HasValuesWritten}
use Rattle.archive_hash_maps.specs.Cursors.{HasEntries}
use Rattle.archive_hash_tests.proofs.sealing.passes_entries.Given as goal

abbrev pub invariant-loop-entry : goal.invariant-loop-entry
invariant-loop-entry g l =
    record {
      begun : BegunMap g.K.Portable.shape g.V.Portable.shape g.K.Portable.knows g.V.Portable.knows;
      left : List ℕ;
      has : HasEntries begun l.entries left;
      written : HasValuesWritten begun l.entries.bytes.now;
    }

abbrev pub decreases-loop-entry : goal.decreases-loop-entry
decreases-loop-entry g l = l.entries.walk.left
