-- What calls ensure that go over all entries of a map or all keys of a set: iterators, and visits of a closure.
use denote.Ref.{MutBor}
use Rattle.std.specs.Prelude.{◌≡◌, ℕ, List, Option, MatchOption, All, map}
use Rattle.std.specs.declared.ops.ControlFlow.{ControlFlow}
use Rattle.archive_shape_layout.specs.Shape.{Shape}
use Rattle.archive_shape.specs.declared.references.refs.Ref.{Ref}
use Rattle.archive_shape.specs.declared.references.seal.Seal.{Seal}
use Rattle.archive_shape.specs.declared.references.own_seal.OwnSeal.{OwnSeal}
use Rattle.archive_shape.specs.declared.types.portable.Portable.{Ghosts}
use Rattle.archive_btree_layout.specs.Tree.{Tree, items}
use Rattle.archive_btree_layout.specs.Reading.{Place}
use Rattle.archive_btree_maps.specs.MapVisits.{MayCallAt, CallsAt}
use Rattle.archive_btree_maps.specs.Maps.{IsMap}
use Rattle.archive_btree_maps.specs.Refs.{key_at, value_at, entry_at}
use Rattle.archive_btree_maps.specs.SealedVisits.{MayCallSealed, VisitsSealed}
use Rattle.archive_btree_maps.specs.SetVisits as keys
use Rattle.archive_btree_maps.specs.Visiting.{VisitsAll, BreaksWith, IsCallableAt}
use Rattle.archive_btree_maps.specs.Walks.{BegunMap, IsWritten}

-- ---- of the map that a reference leads to

module _ {M : Type 0} (most : ℕ) (k v : Shape) (this : Ref M) where
  -- these are the entries of a map, in order
  abbrev pub IteratesEntries : {K V : Type 0} (result : List (Ref K × Ref V)) → Type 0
  IteratesEntries result = (t : Tree Place) → IsMap most k v this t → result ≡ map (entry_at this.bytes) (items t)

  -- these are its keys, in order
  abbrev pub IteratesKeys : {K : Type 0} (result : List (Ref K)) → Type 0
  IteratesKeys result = (t : Tree Place) → IsMap most k v this t → result ≡ map (key_at this.bytes) (items t)

  -- these are its values, in the order of the keys
  abbrev pub IteratesValues : {V : Type 0} (result : List (Ref V)) → Type 0
  IteratesValues result = (t : Tree Place) → IsMap most k v this t → result ≡ map (value_at this.bytes) (items t)

  -- a closure may be called with each key and its value, in any state that it may have reached
  abbrev pub MayVisitEntries : {F K V : Type 0} (pre : F → Ref K → Ref V → Type 0) → Type 0
  MayVisitEntries pre = (t : Tree Place) → IsMap most k v this t → IsCallableAt (MayCallAt pre this.bytes) (items t)

  -- the calls with each key and its value go up to the first that breaks
  abbrev pub VisitsEntries : {F B K V : Type 0} (step : F → Ref K → Ref V → ControlFlow B (Unit {0}) → F → Type 0) (f : F) (result : Option B) (g : F) → Type 0
  VisitsEntries step f result g =
      (t : Tree Place) → IsMap most k v this t → MatchOption result
      (VisitsAll (CallsAt step this.bytes) f g (items t))
      (λ value. BreaksWith (CallsAt step this.bytes) f g (items t) value)

  -- a closure may be called with each key, in any state that it may have reached
  abbrev pub MayVisitKeys : {F K : Type 0} (pre : F → Ref K → Type 0) → Type 0
  MayVisitKeys {F} pre = (t : Tree Place) → IsMap most k v this t → All (λ e. (f : F) → pre f (key_at this.bytes e)) (items t)

  -- the calls with each key go up to the first that breaks
  abbrev pub VisitsKeys : {F B K : Type 0} (step : F → Ref K → ControlFlow B (Unit {0}) → F → Type 0) (f : F) (result : Option B) (g : F) → Type 0
  VisitsKeys step f result g =
      (t : Tree Place) → IsMap most k v this t → MatchOption result
      (keys.VisitsAll step f g (map (key_at this.bytes) (items t)))
      (λ value. keys.BreaksWith step f g (map (key_at this.bytes) (items t)) value)

-- ---- of the map of a seal

module _ {K V M : Type 0} (most : ℕ) (k : Ghosts K) (v : Ghosts V) where
  -- a closure may be called with each key and its value, whatever is written over the values, in any state
  abbrev pub MayVisitLent : {F : Type 0} (pre : F → Ref K → MutBor (OwnSeal V) → Type 0) (this : Seal M) → Type 0
  MayVisitLent pre this =
      (m : BegunMap most k.shape v.shape k.knows v.knows) → m.bytes ≡ this.bytes.now → m.pos ≡ this.pos
      → (bytes : List ℕ) → IsWritten m bytes → All (MayCallSealed pre k.shape k.knows v.SIZE bytes) (items m.search_tree)

  -- the calls that are lent each key and its value go up to the first that breaks, and leave these bytes
  abbrev pub VisitsLent : {F B : Type 0} (step : F → Ref K → MutBor (OwnSeal V) → ControlFlow B (Unit {0}) → MutBor (OwnSeal V) → F → Type 0) (this : Seal M)
      (f : F) (result : Option B) (g : F) (out : List ℕ) → Type 0
  VisitsLent step this f result g out =
      (m : BegunMap most k.shape v.shape k.knows v.knows) → m.bytes ≡ this.bytes.now → m.pos ≡ this.pos
      → VisitsSealed step v.SIZE f this.bytes.now (items m.search_tree) result g out
