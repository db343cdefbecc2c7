-- Calls that find the entries of a map, and those that return an entry by its number or all entries in order.
use Rattle.std.specs.Prelude.{◌≡◌, ℕ, ◌<◌, ◌≤◌, List, map, Option, MatchOption}
use Rattle.archive_shape_layout.specs.Shape.{Shape}
use Rattle.archive_shape_layout.specs.Shape.Shape.{index_map}
use Rattle.archive_shape_layout.specs.Value.{Value}
use Rattle.archive_shape_layout.specs.Content.{Names}
use Rattle.archive_shape.specs.Key.{HeldAt}
use Rattle.archive_shape.specs.declared.references.refs.Ref.{Ref}
use Rattle.archive_forms_values.specs.Parts.{HasElements, AreElements, both}
use Rattle.archive_forms_values.specs.Tuples.{tuple2}
use Rattle.archive_forms_values.specs.declared.reading.slice.SliceRef.{SliceRef}
use Rattle.archive_hash_maps.specs.Maps.{key_at, value_at, entry_at}
use Rattle.archive_index.specs.Maps.{IndexMap, IsMapAt, IsMap, count_of, entry_position, entry_positions}
use Rattle.archive_index.specs.Lookups.{pair_of}
use Rattle.archive_index.specs.Sets.{unit_shape}

-- ---- where they are: `len` entries, of which the first begins at `start`

-- the bytes have so many entries there
abbrev pub HasEntries : Shape → Shape → (knows others : Names → Type 0) → List ℕ → (start len : ℕ) → Type 0
HasEntries k v knows others bytes start len = HasElements (tuple2 k v) (both knows others) bytes start len

-- they are those of the map at a position
abbrev pub LeadsToEntries : Shape → Shape → List ℕ → ℕ → (start len : ℕ) → Type 0
LeadsToEntries k v bytes pos start len = (m : IndexMap) → IsMapAt bytes k v pos m → (start ≡ m.start) × (len ≡ count_of m)

-- they are those of the value that the layout has at a position
abbrev pub HoldsEntries : Shape → Shape → (knows others : Names → Type 0) → List ℕ → ℕ → (start len : ℕ) → Type 0
HoldsEntries k v knows others bytes pos start len =
    (value : Value) → HeldAt (index_map k v) (both knows others) bytes pos value
    → AreElements (tuple2 k v) (both knows others) bytes start len value

-- a slice has the entries of the map that a reference leads to
abbrev pub ReturnsEntries : {M E : Type 0} → Shape → Shape → Ref M → SliceRef E → Type 0
ReturnsEntries k v this entries = LeadsToEntries k v this.bytes.now this.pos entries.pos entries.len

-- a slice has those of the value that the layout has there
abbrev pub ReturnsHeldEntries : {M E : Type 0} → Shape → Shape → (knows others : Names → Type 0) → Ref M → SliceRef E → Type 0
ReturnsHeldEntries k v knows others this entries =
    (value : Value) → HeldAt (index_map k v) (both knows others) this.bytes.now this.pos value
    → AreElements (tuple2 k v) (both knows others) entries.bytes.now entries.pos entries.len value

-- ---- an entry by its number

-- what `entry` is for a number is returned, if the map has an entry with this number
abbrev pub GetsAt : {A M : Type 0} → Shape → Shape → (IndexMap → ℕ → A) → Ref M → ℕ → Option A → Type 0
GetsAt k v entry this index result =
    (m : IndexMap) → IsMap k v this m → MatchOption result (count_of m ≤ index) (λ r. (index < count_of m) × (r ≡ entry m index))

-- the key and the value of the entry are returned
abbrev pub GetsEntryAt : {K V M : Type 0} → Shape → Shape → Ref M → ℕ → Option (Ref K × Ref V) → Type 0
GetsEntryAt k v this index result = GetsAt k v (pair_of this.bytes k v) this index result

-- the key of a set is returned
abbrev pub GetsElementAt : {K S : Type 0} → Shape → Ref S → ℕ → Option (Ref K) → Type 0
GetsElementAt k this index result = GetsAt k unit_shape (λ m i. key_at this.bytes (entry_position k unit_shape m i)) this index result

-- ---- all entries in order

module _ {M : Type 0} (k v : Shape) (this : Ref M) where
  -- what `item` is of the entry at a position, for each entry
  abbrev pub ListsEach : {A : Type 0} → (ℕ → A) → List A → Type 0
  ListsEach item result = (m : IndexMap) → IsMap k v this m → result ≡ map item (entry_positions k v m)

  -- the keys, each with its value
  abbrev pub ListsEntries : {K V : Type 0} → List (Ref K × Ref V) → Type 0
  ListsEntries result = ListsEach (entry_at this.bytes k v) result

  -- the keys alone
  abbrev pub ListsKeys : {K : Type 0} → List (Ref K) → Type 0
  ListsKeys result = ListsEach (key_at this.bytes) result

  -- the values alone
  abbrev pub ListsValues : {V : Type 0} → List (Ref V) → Type 0
  ListsValues result = ListsEach (value_at this.bytes k v) result

-- the keys of a set
abbrev pub ListsElements : {K S : Type 0} → Shape → Ref S → List (Ref K) → Type 0
ListsElements k this result = ListsKeys k unit_shape this result
