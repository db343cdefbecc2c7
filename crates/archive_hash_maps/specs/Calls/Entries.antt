-- The entries of a map, and the calls that their keys and values are lent to. The members of the types of keys and
-- values are `k` and `v`.
use denote.Ref.{MutBor}
use Rattle.std.specs.Prelude.{◌≡◌, ℕ, ◌+◌, ◌≤◌, List, length, take, Option, Some, None, MatchOption}
use Rattle.archive_shape_layout.specs.Shape.{Shape}
use Rattle.archive_shape_layout.specs.Shape.Shape.{table}
use Rattle.archive_shape_layout.specs.Shape.Shapes.{no_shapes}
use Rattle.archive_shape_layout.specs.Content.{Names}
use Rattle.archive_shape.specs.declared.references.refs.Ref.{Ref}
use Rattle.archive_shape.specs.declared.references.own_seal.OwnSeal.{OwnSeal}
use Rattle.archive_shape.specs.declared.types.portable.Portable.{Ghosts as Portable}
use Rattle.archive_forms_values.specs.Fields.{field_position}
use Rattle.archive_forms_values.specs.Loans.{IsLent, MayCallLent, LeavesLent}
use Rattle.archive_forms_values.specs.Parts.{HasValue, both}
use Rattle.archive_forms_values.specs.Tuples.{tuple2}
use Rattle.archive_hash_maps.specs.declared.walking.passing.EntryAt.{EntryAt}

-- the bytes have a map at a position
abbrev pub HasMapAt : Shape → Shape → (Names → Type 0) → (Names → Type 0) → (bytes : List ℕ) (pos : ℕ) → Type 0
HasMapAt k v knows others bytes pos = HasValue (table (tuple2 k v)) (both knows others) bytes pos

-- they have an entry there
abbrev pub HasEntryAt : Shape → Shape → (Names → Type 0) → (Names → Type 0) → (bytes : List ℕ) (at : ℕ) → Type 0
HasEntryAt k v knows others bytes at = HasValue (tuple2 k v) (both knows others) bytes at

module _ {K V : Type 0} (k : Portable K) (v : Portable V) where
  -- the key of an entry is in the bytes before its value, and the value's own bytes are in the bytes
  abbrev pub IsEntryIn : (bytes : List ℕ) (e : EntryAt) → Type 0
  IsEntryIn bytes e = HasValue k.shape k.knows (take e.value bytes) e.key × (e.value + v.SIZE ≤ length bytes)

  -- a key is where its reference leads, and the seal has as many bytes as a value
  abbrev pub IsLentEntry : (lent : Ref K × OwnSeal V) → Type 0
  IsLentEntry lent = HasValue k.shape k.knows lent.0.bytes.now lent.0.pos × (length lent.1.own.now ≡ v.SIZE)

  module _ (bytes : List ℕ) where
    -- the key and the value of the entry at a position are lent
    abbrev pub LendsAt : (at : ℕ) (lent : Ref K × OwnSeal V) → Type 0
    LendsAt at lent = IsLent v.SIZE bytes at (field_position k.shape no_shapes v.shape at) lent.0 lent.1

    -- those of the entry that is found are lent, if one is
    abbrev pub LendsFound : (found : Option ℕ) (result : Option (Ref K × OwnSeal V)) → Type 0
    LendsFound found result =
        MatchOption result (found ≡ None) (λ lent. (at : ℕ) × (found ≡ Some at) × LendsAt at lent)

    -- a call may be lent those at a position
    abbrev pub MayVisitAt : (at : ℕ) (pre : Ref K → MutBor (OwnSeal V) → Type 0) → Type 0
    MayVisitAt at pre =
        MayCallLent v.SIZE bytes at (field_position k.shape no_shapes v.shape at)
        (λ key. HasValue k.shape k.knows key.bytes.now key.pos) pre

    -- a call may be lent those of any entry
    abbrev pub MayVisitEntries : (pre : Ref K → MutBor (OwnSeal V) → Type 0) → Type 0
    MayVisitEntries pre = (at : ℕ) → HasEntryAt k.shape v.shape k.knows v.knows bytes at → MayVisitAt at pre

    -- those at a position are lent to a call, which leaves other bytes
    abbrev pub LeavesAt : (at : ℕ) (calls : Ref K → MutBor (OwnSeal V) → MutBor (OwnSeal V) → Type 0) (out : List ℕ)
        → Type 0
    LeavesAt at calls out = LeavesLent v.SIZE bytes at (field_position k.shape no_shapes v.shape at) calls out
