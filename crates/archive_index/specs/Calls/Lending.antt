-- Look-ups of values that may be edited, in the map of a seal: by a query, or by its hash and the caller's comparison.
use denote.Ref.{Bor}
use Rattle.std.specs.Prelude.{◌≡◌, ℕ, Bool, List, Option, Some, None, MatchOption}
use Rattle.std.specs.Option.{option_map}
use Rattle.std.specs.declared.default.Default.{Ghosts as Default}
use Rattle.std.specs.declared.hash.Hasher.{Ghosts as Hasher}
use Rattle.archive_shape_layout.specs.Shape.{Shape}
use Rattle.archive_shape.specs.declared.references.own_seal.OwnSeal.{OwnSeal}
use Rattle.archive_shape.specs.declared.references.refs.Ref.{Ref}
use Rattle.archive_shape.specs.declared.references.seal.Seal.{Seal}
use Rattle.archive_shape.specs.declared.types.portable.Portable.{Ghosts as Portable}
use Rattle.archive_forms_values.specs.Loans.{IsLent}
use Rattle.archive_hash_maps.specs.Maps.{KeySays, key_at}
use Rattle.archive_hash_maps.specs.Calls.Keys.{Hashes}
use Rattle.archive_shape.specs.Key.{KeyMembers}
use Rattle.archive_hash.specs.Calls.Members.{HashMembers}
use Rattle.archive_index.specs.Calls.Search.{LooksUpQuery}
use Rattle.archive_index.specs.Lookups.{LooksUpEntry, value_position_of}
use Rattle.archive_index.specs.Maps.{IndexMap, IsMapAt, entry_position}

-- ---- what is lent of the entry whose number is found

module _ {K V : Type 0} (k v : Shape) (size : ℕ) (bytes : List ℕ) (m : IndexMap) where
  -- the key and the value's own bytes are lent of the entry with a number
  abbrev pub LendsAt : ℕ → Ref K → OwnSeal V → Type 0
  LendsAt i key value = IsLent size bytes (entry_position k v m i) (value_position_of k v m i) key value

  -- both are lent with the number, if one is found
  abbrev pub LendsFullFound : Option ℕ → Option (ℕ × Ref K × OwnSeal V) → Type 0
  LendsFullFound found result = MatchOption result (found ≡ None) (λ r. (found ≡ Some r.0) × LendsAt r.0 r.1 r.2)

  -- both are lent, if a number is found
  abbrev pub LendsFound : Option ℕ → Option (Ref K × OwnSeal V) → Type 0
  LendsFound found result = MatchOption result (found ≡ None) (λ r. (i : ℕ) × (found ≡ Some i) × LendsAt i r.0 r.1)

-- ---- by a query

module _ {H Q V M : Type 0} (k : KeyMembers Q) (v : Portable V) (default : Default H) (hasher : Hasher H) (hash : HashMembers Q) (query : Q) (this : Seal M) where
  -- the number of the query's entry is found, and what `lends` says is lent of it
  abbrev pub LendsOf : (IndexMap → Option ℕ → Type 0) → Type 0
  LendsOf lends =
      (m : IndexMap) → IsMapAt this.bytes.now k.shape v.shape this.pos m
      → (found : Option ℕ)
      × LooksUpEntry this.bytes.now k.shape v.shape m (Hashes default hasher (hash.hash_input query)) (KeySays k.key_of k.order this.bytes.now query) (λ i. i) found
      × lends m found

  -- its number, its key and its value are lent
  abbrev pub LendsFull : {K : Type 0} → Option (ℕ × Ref K × OwnSeal V) → Type 0
  LendsFull result = LendsOf (λ m found. LendsFullFound k.shape v.shape v.SIZE this.bytes.now m found result)

  -- its key and its value are lent
  abbrev pub LendsEntry : {K : Type 0} → Option (Ref K × OwnSeal V) → Type 0
  LendsEntry result = LendsOf (λ m found. LendsFound k.shape v.shape v.SIZE this.bytes.now m found result)

-- the seal of its value is found
abbrev pub SealsValue : {H Q V M : Type 0} → KeyMembers Q → Shape → Default H → Hasher H → HashMembers Q → Q → Seal M → Option (Seal V) → Type 0
SealsValue k v default hasher hash query this found =
    LooksUpQuery default hasher hash k.shape v (KeySays k.key_of k.order this.bytes.now query) (value_position_of k.shape v)
    this.bytes.now this.pos query (option_map (λ r. r.pos) found)

-- ---- by the caller's comparison, to which the bytes are lent

module _ {H K V Q M : Type 0} (k : Shape) (v : Portable V) (default : Default H) (hasher : Hasher H) (hash : HashMembers Q) (says : Bor Q → Ref K → Bool → Type 0) (query : Bor Q) (this : Seal M) where
  -- the number of the entry that it accepts is found, and what `lends` says is lent of it
  abbrev pub LendsBy : (IndexMap → Option ℕ → Type 0) → Type 0
  LendsBy lends =
      (m : IndexMap) → IsMapAt this.bytes.now k v.shape this.pos m
      → (lent : Bor (List ℕ)) × (lent.now ≡ this.bytes.now) × (found : Option ℕ)
      × LooksUpEntry this.bytes.now k v.shape m (Hashes default hasher (hash.hash_input query.now)) (λ at x. says query (key_at lent at) x) (λ i. i) found
      × lends m found

  -- its number, its key and its value are lent
  abbrev pub LendsFullBy : Option (ℕ × Ref K × OwnSeal V) → Type 0
  LendsFullBy result = LendsBy (λ m found. LendsFullFound k v.shape v.SIZE this.bytes.now m found result)

  -- its key and its value are lent
  abbrev pub LendsEntryBy : Option (Ref K × OwnSeal V) → Type 0
  LendsEntryBy result = LendsBy (λ m found. LendsFound k v.shape v.SIZE this.bytes.now m found result)

  -- the seal of its value is found
  abbrev pub SealsValueBy : Option (Seal V) → Type 0
  SealsValueBy found =
      (m : IndexMap) → IsMapAt this.bytes.now k v.shape this.pos m
      → (lent : Bor (List ℕ)) × (lent.now ≡ this.bytes.now)
      × LooksUpEntry this.bytes.now k v.shape m (Hashes default hasher (hash.hash_input query.now)) (λ at x. says query (key_at lent at) x)
      (value_position_of k v.shape m) (option_map (λ r. r.pos) found)
