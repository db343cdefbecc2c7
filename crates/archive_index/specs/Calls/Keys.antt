-- Look-ups of entries by their keys, in the map or the set that a reference leads to: by a query, or by its hash and the
-- caller's comparison.
use denote.Ref.{Bor}
use Rattle.std.specs.Prelude.{◌≡◌, ℕ, Bool, Option}
use Rattle.std.specs.Option.{is_some}
use Rattle.std.specs.declared.default.Default.{Ghosts as Default}
use Rattle.std.specs.declared.hash.Hasher.{Ghosts as Hasher}
use Rattle.archive_shape_layout.specs.Shape.{Shape}
use Rattle.archive_shape.specs.declared.references.refs.Ref.{Ref}
use Rattle.archive_hash_maps.specs.Maps.{KeySays, key_at}
use Rattle.archive_hash_maps.specs.Calls.Keys.{Hashes}
use Rattle.archive_shape.specs.Key.{KeyMembers}
use Rattle.archive_hash.specs.Calls.Members.{HashMembers}
use Rattle.archive_index.specs.Calls.Search.{LooksUpQuery}
use Rattle.archive_index.specs.Lookups.{LooksUpEntry, value_of, pair_of, full_of}
use Rattle.archive_index.specs.Maps.{IndexMap, IsMap, entry_position}
use Rattle.archive_index.specs.Sets.{unit_shape}

-- ---- by a query

module _ {H Q : Type 0} (k : KeyMembers Q) (v : Shape) (default : Default H) (hasher : Hasher H) (hash : HashMembers Q) (query : Q) where
  -- what `entry` is for the number of the query's entry is found
  abbrev pub Gets : {A M : Type 0} → (IndexMap → ℕ → A) → Ref M → Option A → Type 0
  Gets entry this found =
      LooksUpQuery default hasher hash k.shape v (KeySays k.key_of k.order this.bytes.now query) entry this.bytes.now this.pos query found

  -- its number, its key and its value are found
  abbrev pub GetsFull : {K V M : Type 0} → Ref M → Option (ℕ × Ref K × Ref V) → Type 0
  GetsFull this found = Gets (full_of this.bytes k.shape v) this found

  -- its key and its value are found
  abbrev pub GetsEntry : {K V M : Type 0} → Ref M → Option (Ref K × Ref V) → Type 0
  GetsEntry this found = Gets (pair_of this.bytes k.shape v) this found

  -- its value is found
  abbrev pub GetsValue : {V M : Type 0} → Ref M → Option (Ref V) → Type 0
  GetsValue this found = Gets (value_of this.bytes k.shape v) this found

  -- its number is found
  abbrev pub GetsIndex : {M : Type 0} → Ref M → Option ℕ → Type 0
  GetsIndex this found = Gets (λ m i. i) this found

  -- the Boolean is whether the map has an entry of the query
  abbrev pub SaysKey : {M : Type 0} → Ref M → Bool → Type 0
  SaysKey this result =
      (m : IndexMap) → IsMap k.shape v this m
      → (found : Option ℕ) × (result ≡ is_some found)
      × LooksUpEntry this.bytes.now k.shape v m (Hashes default hasher (hash.hash_input query)) (KeySays k.key_of k.order this.bytes.now query) (λ i. i) found

module _ {H Q : Type 0} (k : KeyMembers Q) (default : Default H) (hasher : Hasher H) (hash : HashMembers Q) (query : Q) where
  -- the number of the query's key in a set, and the key, are found
  abbrev pub GetsFullElement : {K S : Type 0} → Ref S → Option (ℕ × Ref K) → Type 0
  GetsFullElement this found =
      Gets k unit_shape default hasher hash query (λ m i. (i, key_at this.bytes (entry_position k.shape unit_shape m i))) this found

  -- the key is found
  abbrev pub GetsElement : {K S : Type 0} → Ref S → Option (Ref K) → Type 0
  GetsElement this found =
      Gets k unit_shape default hasher hash query (λ m i. key_at this.bytes (entry_position k.shape unit_shape m i)) this found

  -- its number is found
  abbrev pub GetsElementIndex : {S : Type 0} → Ref S → Option ℕ → Type 0
  GetsElementIndex this found = GetsIndex k unit_shape default hasher hash query this found

  -- the Boolean is whether the set has one
  abbrev pub SaysElement : {S : Type 0} → Ref S → Bool → Type 0
  SaysElement this result = SaysKey k unit_shape default hasher hash query this result

-- ---- by the caller's comparison

module _ {H K Q : Type 0} (k v : Shape) (default : Default H) (hasher : Hasher H) (hash : HashMembers Q) (says : Bor Q → Ref K → Bool → Type 0) (query : Bor Q) where
  -- what `entry` is for the number of the entry that it accepts is found
  abbrev pub GetsBy : {A M : Type 0} → (IndexMap → ℕ → A) → Ref M → Option A → Type 0
  GetsBy entry this found =
      LooksUpQuery default hasher hash k v (λ at x. says query (key_at this.bytes at) x) entry this.bytes.now this.pos query.now found

  -- its number, its key and its value are found
  abbrev pub GetsFullBy : {V M : Type 0} → Ref M → Option (ℕ × Ref K × Ref V) → Type 0
  GetsFullBy this found = GetsBy (full_of this.bytes k v) this found

  -- its key and its value are found
  abbrev pub GetsEntryBy : {V M : Type 0} → Ref M → Option (Ref K × Ref V) → Type 0
  GetsEntryBy this found = GetsBy (pair_of this.bytes k v) this found

  -- its value is found
  abbrev pub GetsValueBy : {V M : Type 0} → Ref M → Option (Ref V) → Type 0
  GetsValueBy this found = GetsBy (value_of this.bytes k v) this found

  -- its number is found
  abbrev pub GetsIndexBy : {M : Type 0} → Ref M → Option ℕ → Type 0
  GetsIndexBy this found = GetsBy (λ m i. i) this found
