-- Archived hash maps: tables of entries, and the results of their look-ups.
use denote.Ref.{Bor}
use Rattle.std.specs.Prelude.{◌≡◌, ℕ, ◌+◌, Bool, true, List, slice_index, Option}
use Rattle.std.specs.List.{fold}
use Rattle.std.specs.Ordering.{is_eq}
use Rattle.std.specs.declared.cmp.Ordering.{Ordering}
use Rattle.archive_shape_canonical.specs.FirstFit.{hash_tag}
use Rattle.archive_shape_layout.specs.Shape.{Shape}
use Rattle.archive_shape_layout.specs.Shape.Shapes.{no_shapes}
use Rattle.archive_shape.specs.declared.references.refs.Ref.{Ref}
use Rattle.archive_forms_values.specs.Tuples.{tuple2}
use Rattle.archive_forms_values.specs.Fields.{field_position}
use Rattle.archive_shape_canonical.specs.Reach.{Reaches}
use Rattle.archive_shape_layout.specs.Content.{Names}
use Rattle.archive_forms_values.specs.Parts.{HasValue, both}
use Rattle.archive_hash_maps.specs.Tables.{Buckets, IsTableAt, IsTable, HasTable, item_position}
use Rattle.archive_hash_maps.specs.Places.{item_at, Answers}

-- the map that a reference leads to has these places
abbrev pub IsMap : {M : Type 0} → Shape → Shape → Ref M → Buckets → Type 0
IsMap k v this b = IsTable (tuple2 k v) this b

-- a reference leads to a map
abbrev pub HasMap : {M : Type 0} → Shape → Shape → (Names → Type 0) → (Names → Type 0) → Ref M → Type 0
HasMap k v knows others this = HasTable (tuple2 k v) (both knows others) this

-- a key and a value lie where the two references of an entry lead
abbrev pub IsThere : {K V : Type 0} → Shape → Shape → (Names → Type 0) → (Names → Type 0) → Ref K × Ref V → Type 0
IsThere k v knows others entry = HasValue k knows entry.0.bytes.now entry.0.pos × HasValue v others entry.1.bytes.now entry.1.pos

-- an input hashes to this, by a hasher that starts as its default
abbrev pub HashesTo : {H : Type 0} → (H → Type 0) → (H → List ℕ → H) → (H → ℕ) → List (List ℕ) → ℕ → Type 0
HashesTo {H} is_default write finish input hash = (first : H) × is_default first × (hash ≡ finish (fold write first input))

-- the Boolean is whether the key at a position is the query
abbrev pub KeySays : {Q : Type 0} → (List ℕ → ℕ → Q → Type 0) → (Q → Q → Ordering) → List ℕ → Q → ℕ → Bool → Type 0
KeySays {Q} key_of order bytes query at x = (key : Q) × key_of bytes at key × (x ≡ is_eq (order key query))

-- the map at a position has the query: for each hash of the query, a search for the hash reaches a place whose key is
-- the query and whose control is the hash's tag
pub record HasKey {Q : Type 0} (hashes : ℕ → Type 0) (key_of : List ℕ → ℕ → Q → Type 0) (order : Q → Q → Ordering) (bytes : List ℕ) (k v : Shape) (pos : ℕ) (query : Q) : Type 0 where
  pub buckets : Buckets
  pub place : ℕ
  pub map : IsTableAt bytes (tuple2 k v) pos buckets
  pub reached : (hash : ℕ) → hashes hash → Reaches buckets.controls hash buckets.cap place × (slice_index buckets.controls place ≡ hash_tag hash)
  pub equal : KeySays key_of order bytes query (item_position (tuple2 k v) buckets.target place) true

-- what calls return for a query and the keys
abbrev pub query_calls : {F Q K : Type 0} → (F → Q → Ref K → Bool → Type 0) → F → Q → Bor (List ℕ) → ℕ → Bool → Type 0
query_calls post accepts query bytes at x = post accepts query (item_at bytes at) x

-- the key and the value of the entry at a position
abbrev pub key_at : {K : Type 0} → Bor (List ℕ) → ℕ → Ref K
key_at bytes at = item_at bytes at

abbrev pub value_at : {V : Type 0} → Bor (List ℕ) → Shape → Shape → ℕ → Ref V
value_at bytes k v at = item_at bytes (field_position k no_shapes v at)

abbrev pub entry_at : {K V : Type 0} → Bor (List ℕ) → Shape → Shape → ℕ → Ref K × Ref V
entry_at bytes k v at = (key_at bytes at, value_at bytes k v at)

-- the position of an entry, which is that of its key, and that of its value, `behind` bytes after it
abbrev pub with_value : ℕ → ℕ → ℕ × ℕ
with_value behind at = (at, at + behind)

-- the result of a look-up that has one of these hashes, among the items of a table
pub record LooksUpHash {A : Type 0} (hashes : ℕ → Type 0) (says : ℕ → Bool → Type 0) (item : ℕ → A) (s : Shape) (b : Buckets) (found : Option A) : Type 0 where
  pub hash : ℕ
  pub strides : ℕ
  pub is_hash : hashes hash
  pub answers : Answers says item s b hash found strides

-- the result of a look-up of a key that has one of these hashes, among the entries of a map
abbrev pub LooksUpKey : {A : Type 0} → (ℕ → Type 0) → (ℕ → Bool → Type 0) → (ℕ → A) → Shape → Shape → Buckets → Option A → Type 0
LooksUpKey hashes says item k v b found = LooksUpHash hashes says item (tuple2 k v) b found
