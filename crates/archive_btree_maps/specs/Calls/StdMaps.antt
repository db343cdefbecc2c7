-- What is required and ensured where maps and sets are compared with those of std.
use denote.Ref.{Bor}
use Rattle.std.specs.Prelude.{◌≡◌, ◌↔◌, ℕ, Bool, IsTrue, List, All}
use Rattle.std.specs.List.{AllZip}
use Rattle.std.specs.Ordering.{is_eq}
use Rattle.std.specs.declared.cmp.Ordering.{Ordering}
use Rattle.archive_shape_layout.specs.Shape.{Shape}
use Rattle.archive_shape.specs.declared.references.refs.Ref.{Ref}
use Rattle.archive_shape.specs.declared.types.portable.Portable.{Ghosts}
use Rattle.archive_btree_layout.specs.Tree.{Tree, items}
use Rattle.archive_btree_layout.specs.Reading.{Place}
use Rattle.archive_forms_values.specs.Parts.{HasValue}
use Rattle.archive_btree_maps.specs.Lookups.{IsEqualKey}
use Rattle.archive_btree_maps.specs.Maps.{IsMap}
use Rattle.archive_btree_maps.specs.Refs.{value_at}
use Rattle.archive_btree_maps.specs.Sets.{IsSet}
use Rattle.archive_btree_maps.specs.StdMaps.{IsSameEntry, IsSamePair, IsPairSame, IsPairSameAt, AreSame, MayCallValue}

-- the answer is whether a key is equal to a query
abbrev pub TellsSame : {K Q : Type 0} (key_of : List ℕ → ℕ → Q → Type 0) (key_order : Q → Q → Ordering) (this : Ref K) (query : Q) (result : Bool) → Type 0
TellsSame {Q = Q} key_of key_order this query result = (key : Q) × key_of this.bytes.now this.pos key × (result ≡ is_eq (key_order key query))

-- a closure may be called with each value of a map and those of all pairs
abbrev pub MayCompareValues : {F V M Q W : Type 0} (most : ℕ) (k : Shape) (v : Ghosts V) (pre : F → Ref V → Bor W → Type 0) (f : F) (this : Ref M)
    (others : List (Q × W)) → Type 0
MayCompareValues most k v pre f this others =
    (t : Tree Place) → IsMap most k v.shape this t
    → All (λ e. HasValue v.shape v.knows this.bytes.now e.value → MayCallValue (pre f) others (value_at this.bytes e)) (items t)

module _ {Q W : Type 0} (key_of : List ℕ → ℕ → Q → Type 0) (key_order : Q → Q → Ordering) where
  module _ {F V : Type 0} (post : F → Ref V → Bor W → Bool → Type 0) (f : F) where
    -- the answer is whether an entry is the same as a pair, by calls with the values
    abbrev pub ComparesPair : {K : Type 0} (this : Ref K × Ref V) (other : Bor Q × Bor W) (result : Bool) → Type 0
    ComparesPair this other result = IsPairSame key_of key_order (post f) this (other.0.now, other.1.now) result

    -- the answer is whether entries are the same as pairs, one by one
    abbrev pub ComparesPairs : {K : Type 0} (these : List (Ref K × Ref V)) (others : List (Q × W)) (result : Bool) → Type 0
    ComparesPairs these others result = AreSame (IsPairSame key_of key_order (post f)) these others result

    -- the answer is whether a map is the same as a map of std
    abbrev pub ComparesMap : {M : Type 0} (most : ℕ) (k v : Shape) (this : Ref M) (others : List (Q × W)) (result : Bool) → Type 0
    ComparesMap most k v this others result =
        (t : Tree Place) → IsMap most k v this t
        → AreSame (λ e. IsPairSameAt key_of key_order (post f) this.bytes.now e.key (value_at this.bytes e)) (items t) others result

  module _ (value_of : List ℕ → ℕ → W → Type 0) (value_order : W → W → Ordering) where
    -- the answer is whether entries are the same as pairs, one by one, by the comparisons that keys and values have
    abbrev pub EqualsStdPairs : {K V : Type 0} (these : List (Ref K × Ref V)) (others : List (Q × W)) (result : Bool) → Type 0
    EqualsStdPairs these others result = IsTrue result ↔ AllZip (IsSamePair key_of key_order value_of value_order) these others

    -- the answer is whether a map is the same as a map of std
    abbrev pub EqualsStdMap : {M : Type 0} (most : ℕ) (k v : Shape) (this : Ref M) (others : List (Q × W)) (result : Bool) → Type 0
    EqualsStdMap most k v this others result =
        (t : Tree Place) → IsMap most k v this t
        → IsTrue result ↔ AllZip (IsSameEntry key_of key_order value_of value_order this.bytes.now) (items t) others

-- the answer is whether each key of a set is equal to the query beside it
abbrev pub EqualsStdSet : {Q S : Type 0} (most : ℕ) (k : Shape) (key_of : List ℕ → ℕ → Q → Type 0) (key_order : Q → Q → Ordering) (this : Ref S)
    (others : List Q) (result : Bool) → Type 0
EqualsStdSet most k key_of key_order this others result =
    (t : Tree Place) → IsSet most k this t
    → IsTrue result ↔ AllZip (λ e query. IsEqualKey key_of key_order this.bytes.now query e) (items t) others
