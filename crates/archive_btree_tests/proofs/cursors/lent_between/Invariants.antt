use Rattle.std.proofs.Common.{List}
use Rattle.archive_btree_layout.specs.Reading.{Place}
use Rattle.archive_btree_maps.specs.Walks.{BegunMap, IsWritten}
use Rattle.archive_btree_maps.specs.Cursors.{HasRange}
use Rattle.archive_btree_tests.proofs.cursors.lent_between.Given as goal

abbrev pub invariant-loop-step : goal.invariant-loop-step
invariant-loop-step g l =
    record {
      begun : BegunMap g.row.E g.K.Portable.shape g.V.Portable.shape g.K.Portable.knows g.V.Portable.knows;
      left : List Place;
      has : HasRange begun l.entries left;
      written : IsWritten begun l.entries.bytes.now;
    }
