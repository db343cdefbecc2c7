use Rattle.std.proofs.Common.{◌≡◌, ℕ, List, length}
use Rattle.archive_btree_layout.specs.Tree.{items}
use Rattle.archive_btree_layout.specs.Reading.{Place}
use Rattle.archive_btree_maps.specs.Ranges.{before_key}
use Rattle.archive_btree_maps.specs.Walking.{stack_items}
use Rattle.archive_btree_maps.specs.Walks.{BegunMap, IsWritten, GoesOn}
use Rattle.archive_btree_maps.specs.SealedVisits.{VisitsSealed}
use Rattle.archive_btree_maps.proofs.map.map.ArchivedBTreeMap.visit_seal.Given as goal

abbrev pub invariant-loop-entry : goal.invariant-loop-entry
invariant-loop-entry g l =
    record {
      begun : BegunMap g.row.E g.K.Portable.shape g.V.Portable.shape g.K.Portable.knows g.V.Portable.knows;
      of_bytes : begun.bytes ≡ l.fn.this.bytes.now;
      at : begun.pos ≡ l.fn.this.pos;
      left : List Place;
      goes : GoesOn begun l.walk left;
      written : IsWritten begun l.bytes;
      rest :
          (answer : _) (last : _) (out : List ℕ)
          → VisitsSealed (λ f key value reply left g2. goal.F-step g f key value reply left g2) g.V.Portable.SIZE l.visit l.bytes left answer last out
          → VisitsSealed (λ f key value reply left g2. goal.F-step g f key value reply left g2) g.V.Portable.SIZE l.fn.visit l.fn.this.bytes.now (items begun.search_tree) answer last out;
    }

abbrev pub decreases-loop-entry : goal.decreases-loop-entry
decreases-loop-entry g l = length (before_key l.walk.end (stack_items l.bytes l.walk.layout l.walk.stack.nodes l.walk.stack.nexts l.walk.stack.depth))
