-- What iterators list, by ascending place.
use denote.Ref.{Bor}
use Rattle.std.specs.Prelude.{◌≡◌, ℕ, List, map}
use Rattle.archive_shape_layout.specs.Shape.{Shape, size_of}
use Rattle.archive_shape.specs.declared.references.refs.Ref.{Ref}
use Rattle.archive_forms_values.specs.Tuples.{tuple2}
use Rattle.archive_hash_maps.specs.Tables.{Buckets, IsTableAt, full_places, item_positions}
use Rattle.archive_hash_maps.specs.Places.{full_place}
use Rattle.archive_hash_maps.specs.Maps.{IsMap, key_at, value_at, entry_at}
use Rattle.archive_hash_maps.specs.Sets.{IsSet, key_positions}

-- the full places of the table at a position, each with its control and its item
abbrev pub ListsFullPlaces : {T : Type 0} (s : Shape) (bytes : Bor (List ℕ)) (pos : ℕ) (result : List (ℕ × ℕ × Ref T))
    → Type 0
ListsFullPlaces s bytes pos result =
    (b : Buckets) → IsTableAt bytes.now s pos b
    → result ≡ map (full_place bytes b.controls b.target (size_of s)) (full_places b)

module _ {M : Type 0} (k v : Shape) (this : Ref M) where
  -- what `item` is of the entry at a position, for each entry of a map
  abbrev pub ListsEach : {A : Type 0} (item : ℕ → A) (result : List A) → Type 0
  ListsEach item result = (b : Buckets) → IsMap k v this b → result ≡ map item (item_positions (tuple2 k v) b)

  -- the keys, each with its value
  abbrev pub ListsEntries : {K V : Type 0} (result : List (Ref K × Ref V)) → Type 0
  ListsEntries result = ListsEach (entry_at this.bytes k v) result

  -- the keys alone
  abbrev pub ListsKeys : {K : Type 0} (result : List (Ref K)) → Type 0
  ListsKeys result = ListsEach (key_at this.bytes) result

  -- the values alone
  abbrev pub ListsValues : {V : Type 0} (result : List (Ref V)) → Type 0
  ListsValues result = ListsEach (value_at this.bytes k v) result

-- the keys of a set
abbrev pub ListsElements : {K M : Type 0} (k : Shape) (this : Ref M) (result : List (Ref K)) → Type 0
ListsElements k this result = (b : Buckets) → IsSet k this b → result ≡ map (key_at this.bytes) (key_positions k b)
