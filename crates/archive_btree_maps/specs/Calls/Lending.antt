-- What the look-ups of keys in the map of a seal require and ensure. They lend the entry that they find, or call a closure
-- with it: `step` is that of the closure, which the call leaves as `g`, and it leaves the bytes `out`.
use denote.Ref.{Bor, MutBor}
use Rattle.std.specs.Prelude.{◌≡◌, ℕ, List, Option, Some, None, IfSome, MatchOption, All, Contains}
use Rattle.std.specs.declared.cmp.Ordering.{Ordering}
use Rattle.archive_shape_layout.specs.Shape.{Shape}
use Rattle.archive_shape.specs.declared.references.refs.Ref.{Ref}
use Rattle.archive_shape.specs.declared.references.seal.Seal.{Seal}
use Rattle.archive_shape.specs.declared.references.own_seal.OwnSeal.{OwnSeal}
use Rattle.archive_shape.specs.declared.types.portable.Portable.{Ghosts}
use Rattle.archive_btree_layout.specs.Tree.{Tree, items}
use Rattle.archive_btree_layout.specs.Reading.{Place}
use Rattle.archive_forms_values.specs.Loans.{IsLent, VisitsFound}
use Rattle.archive_forms_values.specs.Parts.{HasValue}
use Rattle.archive_btree_maps.specs.Calls.Lookups.{OfDescent}
use Rattle.archive_btree_maps.specs.Lookups.{QueryOrders, IsEqualKey, IsCalledEqual, CallsOrder}
use Rattle.archive_btree_maps.specs.Maps.{IsMapAt}
use Rattle.archive_btree_maps.specs.Refs.{key_at}
use Rattle.archive_btree_maps.specs.SealedVisits.{MayCallWith, CallsSealed}

-- a closure may be called with a query and each key of a map, regardless of where its bytes are lent
abbrev pub MayCompareLent : {F Q K M : Type 0} (most : ℕ) (k : Ghosts K) (v : Shape) (pre : F → Q → Ref K → Type 0) (f : F) (this : Seal M) (query : Q)
    → Type 0
MayCompareLent most k v pre f this query =
    (t : Tree Place) (lent : Bor (List ℕ))
    → IsMapAt this.bytes.now most k.shape v this.pos t
    → lent.now ≡ this.bytes.now
    → All (λ e. HasValue k.shape k.knows this.bytes.now e.key → pre f query (key_at lent e)) (items t)

-- a closure may be called with each key of a map and its value
abbrev pub MayVisitEach : {F K V M : Type 0} (most : ℕ) (k : Ghosts K) (v : Ghosts V) (pre : F → Ref K → MutBor (OwnSeal V) → Type 0) (this : Seal M) (f : F)
    → Type 0
MayVisitEach most k v pre this f =
    (t : Tree Place) → IsMapAt this.bytes.now most k.shape v.shape this.pos t → All (MayCallWith pre f k.shape k.knows v.SIZE this.bytes.now) (items t)

-- the calls with a query and keys return what an order does, regardless of where the bytes are lent
abbrev pub CallsOrderLent : {F Q K : Type 0} (post : F → Q → Ref K → Ordering → Type 0) (f : F) (query : Q) (bytes : List ℕ) (order : Place → Ordering)
    (places : List Place) → Type 0
CallsOrderLent post f query bytes order places = (lent : Bor (List ℕ)) → lent.now ≡ bytes → CallsOrder post f query lent order places

-- ---- look-ups of any kind: `equal` says which entries are equal, and `orders` which order is that of the comparisons

module _ {K V M : Type 0} (most : ℕ) (k : Shape) (v : Ghosts V) (this : Seal M) where
  -- an entry is lent that is equal
  abbrev pub LendsEqual : (equal : Place → Type 0) (result : Option (Ref K × OwnSeal V)) → Type 0
  LendsEqual equal result =
      (t : Tree Place) → IsMapAt this.bytes.now most k v.shape this.pos t
      → IfSome result (λ r. (e : Place) × Contains (items t) e × equal e × IsLent v.SIZE this.bytes.now e.key e.value r.0 r.1)

  -- the entry is lent that the descent ends at
  abbrev pub LendsOrdered : (orders : (Place → Ordering) → List Place → Type 0) (result : Option (Ref K × OwnSeal V)) → Type 0
  LendsOrdered orders result =
      OfDescent most k v.shape this.bytes.now this.pos orders (λ entry. MatchOption result
      (entry ≡ None)
      (λ r. (e : Place) × (entry ≡ Some e) × IsLent v.SIZE this.bytes.now e.key e.value r.0 r.1))

  module _ {F R : Type 0} (step : F → Ref K → MutBor (OwnSeal V) → R → MutBor (OwnSeal V) → F → Type 0) where
    -- a call is lent an entry that is equal, or nothing changes
    abbrev pub VisitsEqual : (equal : Place → Type 0) (f : F) (result : Option R) (g : F) (out : List ℕ) → Type 0
    VisitsEqual equal f result g out =
        (t : Tree Place) → IsMapAt this.bytes.now most k v.shape this.pos t
        → MatchOption result
        ((g ≡ f) × (out ≡ this.bytes.now))
        (λ answer. (e : Place) × Contains (items t) e × equal e × CallsSealed step v.SIZE f this.bytes.now e answer g out)

    -- a call is lent the entry that the descent ends at, or nothing changes
    abbrev pub VisitsOrdered : (orders : (Place → Ordering) → List Place → Type 0) (f : F) (result : Option R) (g : F) (out : List ℕ) → Type 0
    VisitsOrdered orders f result g out =
        OfDescent most k v.shape this.bytes.now this.pos orders (λ entry. VisitsFound
        (λ e answer. CallsSealed step v.SIZE f this.bytes.now e answer g out)
        ((g ≡ f) × (out ≡ this.bytes.now)) entry result)

-- the seal of the value is returned of the entry that the descent ends at, by an order that is that of the comparisons
abbrev pub AnswersSeal : {Q V M : Type 0} (most : ℕ) (k : Shape) (v : Ghosts V) (key_of : List ℕ → ℕ → Q → Type 0) (key_order : Q → Q → Ordering)
    (this : Seal M) (query : Q) (result : Option (Seal V)) → Type 0
AnswersSeal most k v key_of key_order this query result =
    OfDescent most k v.shape this.bytes.now this.pos (QueryOrders key_of key_order this.bytes.now query) (λ entry. MatchOption result
    (entry ≡ None)
    (λ r. (e : Place) × (entry ≡ Some e) × (r.bytes.ghost_name ≡ this.bytes.ghost_name) × (r.bytes.now ≡ this.bytes.now) × (r.pos ≡ e.value)))

-- ---- look-ups of a query by the comparison that keys have with it

module _ {Q K V M : Type 0} (most : ℕ) (k : Shape) (v : Ghosts V) (key_of : List ℕ → ℕ → Q → Type 0) (key_order : Q → Q → Ordering) (this : Seal M) (query : Q) where
  -- an entry is lent whose key is equal to the query
  abbrev pub FindsLoan : (result : Option (Ref K × OwnSeal V)) → Type 0
  FindsLoan = LendsEqual most k v this (IsEqualKey key_of key_order this.bytes.now query)

  -- the entry is lent that the descent ends at, by an order that is that of the comparisons
  abbrev pub AnswersLoan : (result : Option (Ref K × OwnSeal V)) → Type 0
  AnswersLoan = LendsOrdered most k v this (QueryOrders key_of key_order this.bytes.now query)

  -- a call is lent an entry whose key is equal to the query, or nothing changes
  abbrev pub FindsVisit : {F R : Type 0} (step : F → Ref K → MutBor (OwnSeal V) → R → MutBor (OwnSeal V) → F → Type 0) (f : F) (result : Option R) (g : F)
      (out : List ℕ) → Type 0
  FindsVisit step = VisitsEqual most k v this step (IsEqualKey key_of key_order this.bytes.now query)

  -- a call is lent the entry that the descent ends at, or nothing changes
  abbrev pub AnswersVisit : {F R : Type 0} (step : F → Ref K → MutBor (OwnSeal V) → R → MutBor (OwnSeal V) → F → Type 0) (f : F) (result : Option R) (g : F)
      (out : List ℕ) → Type 0
  AnswersVisit step = VisitsOrdered most k v this step (QueryOrders key_of key_order this.bytes.now query)

-- ---- look-ups of a query by calls of a closure

module _ {F Q K V M : Type 0} (most : ℕ) (k : Shape) (v : Ghosts V) (post : F → Q → Ref K → Ordering → Type 0) (compare : F) (this : Seal M) (query : Q) where
  -- an entry is lent whose key a call says to be equal
  abbrev pub FindsLoanBy : (result : Option (Ref K × OwnSeal V)) → Type 0
  FindsLoanBy = LendsEqual most k v this (IsCalledEqual post compare query this.bytes.now)

  -- the entry is lent that the descent ends at, by an order that is that of the calls
  abbrev pub AnswersLoanBy : (result : Option (Ref K × OwnSeal V)) → Type 0
  AnswersLoanBy = LendsOrdered most k v this (CallsOrderLent post compare query this.bytes.now)

  -- a call is lent an entry whose key a call of the closure says to be equal, or nothing changes
  abbrev pub FindsVisitBy : {G R : Type 0} (step : G → Ref K → MutBor (OwnSeal V) → R → MutBor (OwnSeal V) → G → Type 0) (f : G) (result : Option R) (g : G)
      (out : List ℕ) → Type 0
  FindsVisitBy step = VisitsEqual most k v this step (IsCalledEqual post compare query this.bytes.now)

  -- a call is lent the entry that the descent ends at, or nothing changes
  abbrev pub AnswersVisitBy : {G R : Type 0} (step : G → Ref K → MutBor (OwnSeal V) → R → MutBor (OwnSeal V) → G → Type 0) (f : G) (result : Option R) (g : G)
      (out : List ℕ) → Type 0
  AnswersVisitBy step = VisitsOrdered most k v this step (CallsOrderLent post compare query this.bytes.now)
