-- What is found in tables and maps, and lent to be edited. The members of types are `t`, `k` and `v`.
use denote.Ref.{Bor, MutBor}
use Rattle.std.specs.Prelude.{◌≡◌, ℕ, Bool, List, Option}
use Rattle.std.specs.Option.{option_map}
use Rattle.std.specs.declared.cmp.Ordering.{Ordering}
use Rattle.std.specs.declared.default.Default.{Ghosts as Default}
use Rattle.std.specs.declared.hash.Hasher.{Ghosts as Hasher}
use Rattle.archive_shape_layout.specs.Shape.{Shape}
use Rattle.archive_shape_layout.specs.Shape.Shapes.{no_shapes}
use Rattle.archive_shape.specs.declared.references.refs.Ref.{Ref}
use Rattle.archive_shape.specs.declared.references.seal.Seal.{Seal}
use Rattle.archive_shape.specs.declared.references.own_seal.OwnSeal.{OwnSeal}
use Rattle.archive_shape.specs.declared.types.portable.Portable.{Ghosts as Portable}
use Rattle.archive_forms_values.specs.Fields.{field_position}
use Rattle.archive_forms_values.specs.Loans.{IsOwn, LeavesOwn, VisitsFound}
use Rattle.archive_forms_values.specs.Parts.{HasValue}
use Rattle.archive_forms_values.specs.Tuples.{tuple2}
use Rattle.archive_hash_maps.specs.Tables.{Buckets, IsTableAt}
use Rattle.archive_hash_maps.specs.Places.{Answers, item_at}
use Rattle.archive_hash_maps.specs.Calls.Keys.{LooksUpQuery, LooksUpBy}
use Rattle.archive_hash_maps.specs.Calls.Entries.{LendsFound, LeavesAt}

-- a seal has the buffer of another one, as it was passed
abbrev pub HasBufferOf : {M T : Type 0} (this : Seal M) (result : Seal T) → Type 0
HasBufferOf this result = (result.bytes.ghost_name ≡ this.bytes.ghost_name) × (result.bytes.now ≡ this.bytes.now)

-- ---- items of tables

-- the item of a hash that the comparison accepts is lent, if there is one
abbrev pub GetsItemSeal : {T M : Type 0} (s : Shape) (says : Ref T → Bool → Type 0) (this : Seal M) (hash : ℕ)
    (result : Option (Seal T)) → Type 0
GetsItemSeal s says this hash result =
    (b : Buckets) → IsTableAt this.bytes.now s this.pos b
    → (lent : Bor (List ℕ)) × (strides : ℕ) × (lent.now ≡ this.bytes.now)
    × Answers (λ at x. says (item_at lent at) x) (λ at. at) s b hash (option_map (λ r. r.pos) result) strides

module _ {T : Type 0} (t : Portable T) where
  -- a call may be lent each item
  abbrev pub MayVisitItems : (bytes : List ℕ) (pre : MutBor (OwnSeal T) → Type 0) → Type 0
  MayVisitItems bytes pre =
      (at : ℕ) (item : MutBor (OwnSeal T)) → HasValue t.shape t.knows bytes at → IsOwn t.SIZE bytes at item.now → pre item

  -- the item of a hash that the comparison accepts is lent to a call, if there is one
  abbrev pub VisitsItemSeal : {M R G : Type 0} (says : Ref T → Bool → Type 0)
      (step : G → MutBor (OwnSeal T) → R → MutBor (OwnSeal T) → G → Type 0) (this : Seal M) (out : List ℕ) (hash : ℕ)
      (early late : G) (result : Option R) → Type 0
  VisitsItemSeal says step this out hash early late result =
      (b : Buckets) → IsTableAt this.bytes.now t.shape this.pos b
      → (lent : Bor (List ℕ)) × (found : Option ℕ) × (strides : ℕ) × (lent.now ≡ this.bytes.now)
      × Answers (λ at x. says (item_at lent at) x) (λ at. at) t.shape b hash found strides
      × VisitsFound
      (λ at answer. LeavesOwn t.SIZE this.bytes.now at (λ item left. step early item answer left late) out)
      ((late ≡ early) × (out ≡ this.bytes.now)) found result

-- ---- values of maps

-- the key and the value of the entry that is found are lent to a call, if one is
abbrev pub VisitsFoundAt : {K V R F : Type 0} (k : Portable K) (v : Portable V)
    (step : F → Ref K → MutBor (OwnSeal V) → R → MutBor (OwnSeal V) → F → Type 0) (bytes out : List ℕ) (early late : F)
    (found : Option ℕ) (result : Option R) → Type 0
VisitsFoundAt k v step bytes out early late found result =
    VisitsFound
    (λ at answer. LeavesAt k v bytes at (λ key value left. step early key value answer left late) out)
    ((late ≡ early) × (out ≡ bytes)) found result

module _ {H Q M : Type 0} (default : Default H) (hasher : Hasher H) (hash_input : Q → List (List ℕ)) where
  module _ (key_of : List ℕ → ℕ → Q → Type 0) (order : Q → Q → Ordering) where
    -- the value of a query is lent, if the map has the query
    abbrev pub GetsValueSeal : {V : Type 0} (k v : Shape) (this : Seal M) (query : Q) (result : Option (Seal V)) → Type 0
    GetsValueSeal k v this query result =
        (b : Buckets) → IsTableAt this.bytes.now (tuple2 k v) this.pos b
        → LooksUpQuery default hasher hash_input key_of order k v this.bytes.now query
        (field_position k no_shapes v) b (option_map (λ r. r.pos) result)

    module _ {K V : Type 0} (k : Portable K) (v : Portable V) (this : Seal M) where
      -- its key and its value are lent
      abbrev pub GetsEntrySeal : (query : Q) (result : Option (Ref K × OwnSeal V)) → Type 0
      GetsEntrySeal query result =
          (b : Buckets) → IsTableAt this.bytes.now (tuple2 k.shape v.shape) this.pos b
          → (found : Option ℕ)
          × LooksUpQuery default hasher hash_input key_of order k.shape v.shape this.bytes.now query (λ at. at) b found
          × LendsFound k v this.bytes.now found result

      -- they are lent to a call
      abbrev pub VisitsEntrySeal : {R F : Type 0} (step : F → Ref K → MutBor (OwnSeal V) → R → MutBor (OwnSeal V) → F → Type 0)
          (out : List ℕ) (query : Q) (early late : F) (result : Option R) → Type 0
      VisitsEntrySeal step out query early late result =
          (b : Buckets) → IsTableAt this.bytes.now (tuple2 k.shape v.shape) this.pos b
          → (found : Option ℕ)
          × LooksUpQuery default hasher hash_input key_of order k.shape v.shape this.bytes.now query (λ at. at) b found
          × VisitsFoundAt k v step this.bytes.now out early late found result

  module _ {K V : Type 0} (says : Bor Q → Ref K → Bool → Type 0) where
    -- the value of the entry that the caller's comparison accepts is lent
    abbrev pub GetsValueSealBy : (k v : Shape) (this : Seal M) (query : Bor Q) (result : Option (Seal V)) → Type 0
    GetsValueSealBy k v this query result =
        (b : Buckets) → IsTableAt this.bytes.now (tuple2 k v) this.pos b
        → (lent : Bor (List ℕ)) × (lent.now ≡ this.bytes.now)
        × LooksUpBy default hasher hash_input says k v lent query
        (field_position k no_shapes v) b (option_map (λ r. r.pos) result)

    module _ (k : Portable K) (v : Portable V) (this : Seal M) where
      -- its key and its value are lent
      abbrev pub GetsEntrySealBy : (query : Bor Q) (result : Option (Ref K × OwnSeal V)) → Type 0
      GetsEntrySealBy query result =
          (b : Buckets) → IsTableAt this.bytes.now (tuple2 k.shape v.shape) this.pos b
          → (lent : Bor (List ℕ)) × (found : Option ℕ) × (lent.now ≡ this.bytes.now)
          × LooksUpBy default hasher hash_input says k.shape v.shape lent query (λ at. at) b found
          × LendsFound k v this.bytes.now found result

      -- they are lent to a call
      abbrev pub VisitsEntrySealBy : {R G : Type 0} (step : G → Ref K → MutBor (OwnSeal V) → R → MutBor (OwnSeal V) → G → Type 0)
          (out : List ℕ) (query : Bor Q) (early late : G) (result : Option R) → Type 0
      VisitsEntrySealBy step out query early late result =
          (b : Buckets) → IsTableAt this.bytes.now (tuple2 k.shape v.shape) this.pos b
          → (lent : Bor (List ℕ)) × (found : Option ℕ) × (lent.now ≡ this.bytes.now)
          × LooksUpBy default hasher hash_input says k.shape v.shape lent query (λ at. at) b found
          × VisitsFoundAt k v step this.bytes.now out early late found result
