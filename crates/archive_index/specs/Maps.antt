-- Archived index maps: the places of their tables, and the positions of their entries.
use Rattle.std.specs.Prelude.{◌≡◌, ℕ, zero, suc, ◌+◌, ◌*◌, ◌<◌, ◌≤◌, List, [], ◌∷◌, length, Some, All}
use Rattle.archive_shape_layout.specs.Bytes.{word_at, target_from}
use Rattle.archive_shape_layout.specs.Shape.{Shape, size_of}
use Rattle.archive_shape_layout.specs.Shape.Shape.{index_map}
use Rattle.archive_shape_layout.specs.Value.{Value}
use Rattle.archive_shape_layout.specs.Content.{Names}
use Rattle.archive_shape.specs.Key.{HeldAt}
use Rattle.archive_shape.specs.declared.references.refs.Ref.{Ref}
use Rattle.archive_forms_laws.specs.Sample.{number_shape}
use Rattle.archive_forms_values.specs.Tuples.{tuple2}
use Rattle.archive_forms_values.specs.Parts.{HasValue, AreElements, both}
use Rattle.archive_hash_maps.specs.Tables.{Buckets, no_buckets, IsTableAt, full_places, item_positions}

-- an index map: the places of the table of its entries' numbers, and the position of its first entry
pub record IndexMap : Type 0 where
  pub buckets : Buckets
  pub start : ℕ

-- a map without entries
abbrev pub no_map : IndexMap
no_map = record { buckets = no_buckets; start = 0 }

-- the number of entries: each has a place
abbrev pub count_of : IndexMap → ℕ
count_of m = length (full_places m.buckets)

-- positions side by side
abbrev pub adjacent : (size at : ℕ) → ℕ → List ℕ
adjacent size at zero = []
adjacent size at (suc n) = at ∷ adjacent size (at + size) n

module _ (k v : Shape) (m : IndexMap) where
  -- the position of an entry
  abbrev pub entry_position : ℕ → ℕ
  entry_position i = m.start + i * size_of (tuple2 k v)

  -- the positions of all entries, in order
  abbrev pub entry_positions : List ℕ
  entry_positions = adjacent (size_of (tuple2 k v)) m.start (count_of m)

-- The map at a position is this one: its first twelve bytes are those of its table, and where it has entries the pointer after
-- them leads to the first. The item of each full place of the table is the number of an entry.
pub record IsMapAt (bytes : List ℕ) (k v : Shape) (pos : ℕ) (m : IndexMap) : Type 0 where
  pub table : IsTableAt bytes number_shape pos m.buckets
  pub leads : (count_of m ≡ 0 → ⊥) → target_from (pos + 12) (word_at bytes (pos + 12)) ≡ Some m.start
  pub none : count_of m ≡ 0 → m.start ≡ 0
  pub numbers : All (λ at. word_at bytes at < count_of m) (item_positions number_shape m.buckets)
  pub within : m.start + count_of m * size_of (tuple2 k v) ≤ length bytes

-- the map that a reference leads to is this one
abbrev pub IsMap : {M : Type 0} → Shape → Shape → Ref M → IndexMap → Type 0
IsMap k v this m = IsMapAt this.bytes.now k v this.pos m

-- the bytes have some map at a position
abbrev pub HasMapAt : Shape → Shape → (Names → Type 0) → (Names → Type 0) → List ℕ → ℕ → Type 0
HasMapAt k v knows others bytes pos = HasValue (index_map k v) (both knows others) bytes pos

-- a reference leads to a map
abbrev pub HasMap : {M : Type 0} → Shape → Shape → (Names → Type 0) → (Names → Type 0) → Ref M → Type 0
HasMap k v knows others this = HasMapAt k v knows others this.bytes.now this.pos

module _ (k v : Shape) (knows others : Names → Type 0) (bytes : List ℕ) where
  -- the map at a position has the entries of a value, in order, and they end before it
  pub record IsMapOf (pos : ℕ) (value : Value) : Type 0 where
    pub map : IndexMap
    pub stands : IsMapAt bytes k v pos map
    pub before : map.start + count_of map * size_of (tuple2 k v) ≤ pos
    pub entries : AreElements (tuple2 k v) (both knows others) bytes map.start (count_of map) value

  -- where the layout has an index map, its bytes have a map with the entries of its value
  abbrev pub MapIsRead : Type 0
  MapIsRead = (pos : ℕ) (value : Value) → HeldAt (index_map k v) (both knows others) bytes pos value → IsMapOf pos value

-- the bytes of an index map have exactly one map
abbrev pub OneMap : Type 0
OneMap =
    (bytes : List ℕ) (k v : Shape) (pos : ℕ) (m n : IndexMap)
    → IsMapAt bytes k v pos m
    → IsMapAt bytes k v pos n
    → m ≡ n
