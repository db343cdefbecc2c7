-- Walks over the items of a table and the entries of a map, any of which may be written over between two steps. The
-- members of types are `t`, `k` and `v`.
use Rattle.std.specs.Prelude.{◌≡◌, ℕ, List, [], ◌∷◌, take, Option, MatchOption}
use Rattle.archive_shape_layout.specs.Shape.Shapes.{no_shapes}
use Rattle.archive_shape.specs.declared.types.portable.Portable.{Ghosts as Portable}
use Rattle.archive_forms_values.specs.Fields.{field_position}
use Rattle.archive_hash_probing.specs.Calls.{PassesFirst}
use Rattle.archive_hash_maps.specs.Places.{places_from}
use Rattle.archive_hash_maps.specs.Walks.{BegunTable, BegunMap, GoesOn, IsWritten, HasValuesWritten, IsKept, items_of}
use Rattle.archive_hash_maps.specs.declared.walking.passing.EntryAt.{EntryAt}
use Rattle.archive_hash_maps.specs.declared.walking.passing.PlacesLeft.{PlacesLeft}

-- the next of the full places from `old` on is passed, if there is one
abbrev pub PassesPlace : (controls : List ℕ) (cap old : ℕ) (result : Option ℕ) (new : ℕ) → Type 0
PassesPlace controls cap old result new = PassesFirst (places_from controls cap old) result (places_from controls cap new)

module _ {T : Type 0} (t : Portable T) where
  -- a walk begins with all items of the table at a position, in bytes in which they may have been written over
  abbrev pub BeginsWalk : (bytes : List ℕ) (pos : ℕ) (walk : PlacesLeft) (now : List ℕ) → Type 0
  BeginsWalk bytes pos walk now =
      (m : BegunTable t.shape t.knows) → m.bytes ≡ bytes → m.pos ≡ pos → GoesOn m walk (items_of m) × IsWritten m now

  -- a walk is one over the items of a table
  abbrev pub IsItemWalk : (walk : PlacesLeft) (bytes : List ℕ) → Type 0
  IsItemWalk walk bytes = (m : BegunTable t.shape t.knows) × (ps : List ℕ) × GoesOn m walk ps × IsWritten m bytes

  -- the next item is passed, if one is left
  abbrev pub WalksItem : (old : PlacesLeft) (bytes : List ℕ) (result : Option ℕ) (new : PlacesLeft) → Type 0
  WalksItem old bytes result new =
      (m : BegunTable t.shape t.knows) (ps : List ℕ) → GoesOn m old ps → IsWritten m bytes → MatchOption result
      ((ps ≡ []) × GoesOn m new [])
      (λ at. (rest : List ℕ) × (ps ≡ at ∷ rest) × GoesOn m new rest)

module _ {K V : Type 0} (k : Portable K) (v : Portable V) where
  -- a walk is one over the entries of a map
  abbrev pub IsEntryWalk : (walk : PlacesLeft) (bytes : List ℕ) → Type 0
  IsEntryWalk walk bytes =
      (m : BegunMap k.shape v.shape k.knows v.knows) × (ps : List ℕ) × GoesOn m walk ps × HasValuesWritten m bytes

  -- the next entry is passed, if one is left
  abbrev pub WalksEntry : (old : PlacesLeft) (bytes : List ℕ) (result : Option EntryAt) (new : PlacesLeft) → Type 0
  WalksEntry old bytes result new =
      (m : BegunMap k.shape v.shape k.knows v.knows) (ps : List ℕ) → GoesOn m old ps → HasValuesWritten m bytes
      → MatchOption result
      ((ps ≡ []) × GoesOn m new [])
      (λ e. (rest : List ℕ) × (ps ≡ e.key ∷ rest) × (e.value ≡ field_position k.shape no_shapes v.shape e.key)
      × IsKept k.shape k.knows m.bytes (take e.value bytes) e.key × GoesOn m new rest)
