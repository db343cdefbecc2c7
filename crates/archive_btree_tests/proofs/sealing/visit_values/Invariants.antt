use Rattle.std.proofs.Common.{List}
use Rattle.archive_btree_layout.specs.Reading.{Place}
use Rattle.archive_btree_maps.specs.Walks.{BegunMap, IsWritten}
use Rattle.archive_btree_maps.specs.Cursors.{HasValues}
use Rattle.archive_btree_tests.proofs.sealing.visit_values.Given as goal

abbrev pub invariant-loop-at : goal.invariant-loop-at
invariant-loop-at g l =
    record {
      begun : BegunMap g.row.E g.K.Portable.shape g.V.Portable.shape g.K.Portable.knows g.V.Portable.knows;
      left : List Place;
      has : HasValues begun l.values left;
      written : IsWritten begun l.values.entries.bytes.now;
    }

abbrev pub decreases-loop-at : goal.decreases-loop-at
decreases-loop-at g l = l.values.entries.left
