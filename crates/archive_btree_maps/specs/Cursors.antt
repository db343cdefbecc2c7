-- The entries that cursors have left, regardless of what is written over the values of the map.
use Rattle.std.specs.Prelude.{◌≡◌, ℕ, List, length}
use Rattle.archive_shape_layout.specs.Shape.{Shape}
use Rattle.archive_shape_layout.specs.Content.{Names}
use Rattle.archive_btree_layout.specs.Reading.{Place}
use Rattle.archive_btree_maps.specs.Walks.{BegunMap, GoesOn}
use Rattle.archive_btree_maps.specs.declared.walking.sealing.iter.IterSeal.{IterSeal}
use Rattle.archive_btree_maps.specs.declared.walking.sealing.iter.ValuesSeal.{ValuesSeal}
use Rattle.archive_btree_maps.specs.declared.walking.sealing.range.RangeSeal.{RangeSeal}

module _ {most : ℕ} {k v : Shape} {knows others : Names → Type 0} (m : BegunMap most k v knows others) {K V : Type 0} where
  -- a cursor has these entries left, and their number
  pub record HasEntries (c : IterSeal K V) (es : List Place) : Type 0 where
    pub goes : GoesOn m c.walk es
    pub count : c.left ≡ length es

  -- a cursor over values has those of these entries left
  abbrev pub HasValues : ValuesSeal K V → List Place → Type 0
  HasValues c es = HasEntries c.entries es

  -- a cursor between two bounds has these entries left
  abbrev pub HasRange : RangeSeal K V → List Place → Type 0
  HasRange c es = GoesOn m c.walk es
