-- What stays of a map, after a write over the value of one of its entries.
use Rattle.std.specs.Prelude.{ℕ, List, [], ◌∷◌, All}
use Rattle.archive_shape_layout.specs.Edit.{Apart}
use Rattle.archive_shape_layout.specs.Shape.{Shape, size_of}
use Rattle.archive_shape_layout.specs.Shape.Shapes.{no_shapes}
use Rattle.archive_shape_layout.specs.Content.{Names}
use Rattle.archive_forms_values.specs.Fields.{field_position}
use Rattle.archive_forms_values.specs.Parts.{both}
use Rattle.archive_forms_values.specs.Tuples.{tuple2}
use Rattle.archive_hash_maps.specs.Tables.{IsTableAt}
use Rattle.archive_hash_maps.specs.Walks.{DiffersAt, IsKept, BegunMap, items_of}

-- the other bytes differ at most in the own bytes of the value of the entry at a position
abbrev pub DiffersInValue : Shape → Shape → (at : ℕ) (bytes others : List ℕ) → Type 0
DiffersInValue k v at bytes others = DiffersAt (size_of v) (field_position k no_shapes v at ∷ []) bytes others

-- the map has the same places, each key is kept, and so is each entry that does not overlap the one at a position
pub record StaysBeside {k v : Shape} {knows others : Names → Type 0} (m : BegunMap k v knows others) (at : ℕ) (bytes : List ℕ) : Type 0 where
  pub table : IsTableAt bytes (tuple2 k v) m.pos m.buckets
  pub keys : All (IsKept k knows m.bytes bytes) (items_of m)
  pub entries :
      All
      (λ p. Apart p (size_of (tuple2 k v)) at (size_of (tuple2 k v)) → IsKept (tuple2 k v) (both knows others) m.bytes bytes p)
      (items_of m)
