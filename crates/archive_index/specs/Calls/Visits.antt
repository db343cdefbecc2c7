-- Look-ups of entries whose key and value are lent to a call, in the map of a seal: by a query, or by its hash and the
-- caller's comparison. `early` and `late` are the closure as a call begins and ends, and `out` are the bytes as it ends.
use denote.Ref.{Bor, MutBor}
use Rattle.std.specs.Prelude.{◌≡◌, ℕ, Bool, List, Option}
use Rattle.std.specs.declared.default.Default.{Ghosts as Default}
use Rattle.std.specs.declared.hash.Hasher.{Ghosts as Hasher}
use Rattle.archive_shape.specs.declared.references.own_seal.OwnSeal.{OwnSeal}
use Rattle.archive_shape.specs.declared.references.refs.Ref.{Ref}
use Rattle.archive_shape.specs.declared.references.seal.Seal.{Seal}
use Rattle.archive_shape.specs.declared.types.portable.Portable.{Ghosts as Portable}
use Rattle.archive_forms_values.specs.Loans.{VisitsFound}
use Rattle.archive_hash_maps.specs.Calls.Entries.{LeavesAt}
use Rattle.archive_shape.specs.Key.{KeyMembers}
use Rattle.archive_hash.specs.Calls.Members.{HashMembers}
use Rattle.archive_index.specs.Calls.Lending.{LendsOf, LendsBy}
use Rattle.archive_index.specs.Maps.{IndexMap, IsMapAt, entry_position}

module _ {K V R F : Type 0} (k : Portable K) (v : Portable V) (step : F → Ref K → MutBor (OwnSeal V) → R → MutBor (OwnSeal V) → F → Type 0) (bytes out : List ℕ) (early late : F) where
  -- both are lent of the entry with a number, to a call with this result
  abbrev pub IsVisited : IndexMap → ℕ → R → Type 0
  IsVisited m i answer =
      LeavesAt k v bytes (entry_position k.shape v.shape m i) (λ key value left. step early key value answer left late) out

  -- of the entry whose number is found, if one is; without one no call is made, and nothing changes
  abbrev pub VisitsNumber : IndexMap → Option ℕ → Option R → Type 0
  VisitsNumber m found result = VisitsFound (IsVisited m) ((late ≡ early) × (out ≡ bytes)) found result

  -- the same, with the number beside the result
  abbrev pub VisitsFullNumber : IndexMap → Option ℕ → Option (ℕ × R) → Type 0
  VisitsFullNumber m found result =
      VisitsFound (λ i r. (r.0 ≡ i) × IsVisited m i r.1) ((late ≡ early) × (out ≡ bytes)) found result

  -- in the map at a position
  abbrev pub VisitsFoundAt : ℕ → Option ℕ → Option (ℕ × R) → Type 0
  VisitsFoundAt pos found result = (m : IndexMap) → IsMapAt bytes k.shape v.shape pos m → VisitsFullNumber m found result

-- ---- by a query

module _ {H Q K V R F M : Type 0} (key : KeyMembers Q) (default : Default H) (hasher : Hasher H) (hash : HashMembers Q) (query : Q) (k : Portable K) (v : Portable V) (step : F → Ref K → MutBor (OwnSeal V) → R → MutBor (OwnSeal V) → F → Type 0) (this : Seal M) (out : List ℕ) (early late : F) where
  -- the query's entry is visited: the result is its number beside that of the call
  abbrev pub VisitsFull : Option (ℕ × R) → Type 0
  VisitsFull result =
      LendsOf key v default hasher hash query this (λ m found. VisitsFullNumber k v step this.bytes.now out early late m found result)

  -- the result is that of the call alone
  abbrev pub VisitsEntry : Option R → Type 0
  VisitsEntry result =
      LendsOf key v default hasher hash query this (λ m found. VisitsNumber k v step this.bytes.now out early late m found result)

-- ---- by the caller's comparison, to which the bytes are lent

module _ {H Q K V R F M : Type 0} (default : Default H) (hasher : Hasher H) (hash : HashMembers Q) (says : Bor Q → Ref K → Bool → Type 0) (query : Bor Q) (k : Portable K) (v : Portable V) (step : F → Ref K → MutBor (OwnSeal V) → R → MutBor (OwnSeal V) → F → Type 0) (this : Seal M) (out : List ℕ) (early late : F) where
  -- the entry that it accepts is visited: the result is its number beside that of the call
  abbrev pub VisitsFullBy : Option (ℕ × R) → Type 0
  VisitsFullBy result =
      LendsBy k.shape v default hasher hash says query this (λ m found. VisitsFullNumber k v step this.bytes.now out early late m found result)

  -- the result is that of the call alone
  abbrev pub VisitsEntryBy : Option R → Type 0
  VisitsEntryBy result =
      LendsBy k.shape v default hasher hash says query this (λ m found. VisitsNumber k v step this.bytes.now out early late m found result)
