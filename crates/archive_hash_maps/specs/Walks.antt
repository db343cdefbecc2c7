-- What a walk over a table has left, after any write over its items or over the values of its entries.
use Rattle.std.specs.Prelude.{◌≡◌, ℕ, ◌+◌, ◌^◌, ◌<◌, ◌≤◌, List, length, slice_index, take, map, All}
use Rattle.archive_shape_layout.specs.Shape.{Shape, size_of}
use Rattle.archive_shape_layout.specs.Shape.Shape.{table}
use Rattle.archive_shape_layout.specs.Shape.Shapes.{no_shapes}
use Rattle.archive_shape_layout.specs.Value.{Value}
use Rattle.archive_shape_layout.specs.Content.{Names}
use Rattle.archive_shape.specs.Key.{HeldAt}
use Rattle.archive_forms_values.specs.Tuples.{tuple2}
use Rattle.archive_forms_values.specs.Parts.{HasValue, both}
use Rattle.archive_forms_values.specs.Fields.{field_position}
use Rattle.archive_shape_layout.specs.Bytes.{IsOutside}
use Rattle.archive_hash_maps.specs.Tables.{Buckets, IsTableAt, item_position, item_positions}
use Rattle.archive_hash_maps.specs.Places.{places_from}
use Rattle.archive_hash_maps.specs.declared.walking.passing.PlacesLeft.{PlacesLeft}

-- the other bytes have the same length, and differ at most in pieces of one size that begin at these positions
pub record DiffersAt (size : ℕ) (starts : List ℕ) (bytes others : List ℕ) : Type 0 where
  pub same_length : length others ≡ length bytes
  pub elsewhere : (i : ℕ) → All (λ p. IsOutside p (p + size) i) starts → slice_index others i ≡ slice_index bytes i

-- the same value is at a position of both lists of bytes
pub record IsKept (s : Shape) (knows : Names → Type 0) (bytes others : List ℕ) (pos : ℕ) : Type 0 where
  pub value : Value
  pub was : HeldAt s knows bytes pos value
  pub is : HeldAt s knows others pos value

-- a table, by the bytes that it had before any write over its items
pub record BegunTable (s : Shape) (knows : Names → Type 0) : Type 0 where
  pub bytes : List ℕ
  pub pos : ℕ
  pub buckets : Buckets
  pub has : HasValue (table s) knows bytes pos
  pub places : IsTableAt bytes s pos buckets

module _ {s : Shape} {knows : Names → Type 0} (m : BegunTable s knows) where
  abbrev pub items_of : List ℕ
  items_of = item_positions s m.buckets

  -- these bytes differ from those at most in the own bytes of the items
  abbrev pub IsWritten : List ℕ → Type 0
  IsWritten bytes = DiffersAt (size_of s) items_of m.bytes bytes

  -- a walk has the items at these positions left: those of the full places that it has not passed
  pub record GoesOn (w : PlacesLeft) (ps : List ℕ) : Type 0 where
    pub target : w.target ≡ m.buckets.target
    pub capacity : w.capacity ≡ m.buckets.cap
    pub few : w.capacity < 2 ^ 32
    pub within : w.next ≤ w.capacity
    pub left : ps ≡ map (item_position s m.buckets.target) (places_from m.buckets.controls m.buckets.cap w.next)
    pub count : w.left ≡ length ps

-- a map is a table of entries
abbrev pub BegunMap : Shape → Shape → (Names → Type 0) → (Names → Type 0) → Type 0
BegunMap k v knows others = BegunTable (tuple2 k v) (both knows others)

module _ {k v : Shape} {knows others : Names → Type 0} (m : BegunMap k v knows others) where
  -- these bytes differ from those of the map at most in the own bytes of the values
  abbrev pub HasValuesWritten : List ℕ → Type 0
  HasValuesWritten bytes = DiffersAt (size_of v) (map (field_position k no_shapes v) (items_of m)) m.bytes bytes

-- after any write over the items of a table, it has the same places
abbrev pub TableStays : Shape → (Names → Type 0) → Type 0
TableStays s knows = (m : BegunTable s knows) (bytes : List ℕ) → IsWritten m bytes → IsTableAt bytes s m.pos m.buckets

-- after any write over the values of a map, each key is kept in the bytes before its value
abbrev pub KeysStay : Shape → Shape → (Names → Type 0) → (Names → Type 0) → Type 0
KeysStay k v knows others =
    (m : BegunMap k v knows others) (bytes : List ℕ)
    → HasValuesWritten m bytes
    → All (λ at. IsKept k knows m.bytes (take (field_position k no_shapes v at) bytes) at) (items_of m)
