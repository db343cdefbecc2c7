-- What the steps of walks and cursors over the entries of a map require and ensure, where values may be written over.
use denote.Ref.{MutBor}
use Rattle.std.specs.Prelude.{◌≡◌, ℕ, ◌+◌, ◌≤◌, List, [], ◌∷◌, length, take, Option, MatchOption}
use Rattle.archive_shape.specs.declared.references.refs.Ref.{Ref}
use Rattle.archive_shape.specs.declared.references.own_seal.OwnSeal.{OwnSeal}
use Rattle.archive_shape.specs.declared.types.portable.Portable.{Ghosts}
use Rattle.archive_btree_layout.specs.Reading.{Place}
use Rattle.archive_forms_values.specs.Loans.{IsOwn, IsLent, LeavesOwn, VisitsNext}
use Rattle.archive_forms_values.specs.Parts.{HasValue}
use Rattle.archive_btree_maps.specs.Calls.Walks.{PassesNext}
use Rattle.archive_btree_maps.specs.Cursors.{HasEntries, HasValues, HasRange}
use Rattle.archive_btree_maps.specs.SealedVisits.{MayCallWith, CallsSealed}
use Rattle.archive_btree_maps.specs.Walks.{BegunMap, IsWritten, GoesOn}
use Rattle.archive_btree_maps.specs.declared.nodes.searching.node.EntryAt.{EntryAt}
use Rattle.archive_btree_maps.specs.declared.nodes.searching.stepping.EntryWalk.{EntryWalk}
use Rattle.archive_btree_maps.specs.declared.walking.sealing.iter.IterSeal.{IterSeal}
use Rattle.archive_btree_maps.specs.declared.walking.sealing.iter.ValuesSeal.{ValuesSeal}
use Rattle.archive_btree_maps.specs.declared.walking.sealing.range.RangeSeal.{RangeSeal}

-- an entry can be lent: its key is read from the bytes before its value, and the value's own bytes are there
abbrev pub CanLend : {K V : Type 0} (k : Ghosts K) (v : Ghosts V) (bytes : List ℕ) (e : EntryAt) → Type 0
CanLend k v bytes e = HasValue k.shape k.knows (take e.value bytes) e.key × (e.value + v.SIZE ≤ length bytes)

-- the key of a loan is there, and the seal of its value has the value's own bytes
abbrev pub IsLoan : {K V : Type 0} (k : Ghosts K) (v : Ghosts V) (loan : Ref K × OwnSeal V) → Type 0
IsLoan k v loan = HasValue k.shape k.knows loan.0.bytes.now loan.0.pos × (length loan.1.own.now ≡ v.SIZE)

-- ---- cursors of any kind: `left` says which entries of a map one has left, and `bytes_of` gives its bytes

module _ {K V C : Type 0} (k : Ghosts K) (v : Ghosts V)
    (left : C → (most : ℕ) → BegunMap most k.shape v.shape k.knows v.knows → List Place → Type 0) (bytes_of : C → List ℕ) where
  -- a cursor is over some map, and has some of its entries left
  abbrev pub IsOver : (cursor : C) → Type 0
  IsOver cursor =
      (most : ℕ) × (m : BegunMap most k.shape v.shape k.knows v.knows) × (es : List Place)
      × left cursor most m es × IsWritten m (bytes_of cursor)

  -- P holds of each map that a cursor is over, and the entries that it has left
  abbrev pub OfLeft : (cursor : C) (P : (most : ℕ) → BegunMap most k.shape v.shape k.knows v.knows → List Place → Type 0) → Type 0
  OfLeft cursor P =
      (most : ℕ) (m : BegunMap most k.shape v.shape k.knows v.knows) (es : List Place)
      → left cursor most m es
      → IsWritten m (bytes_of cursor)
      → P most m es

  -- the next entry that is left, if there is one, is passed
  abbrev pub Passes : (old : C) (result : Option EntryAt) (new : C) → Type 0
  Passes old result new = OfLeft old (λ most m es. PassesNext es result (left new most m))

  -- the next entry that is left, if there is one, is lent
  abbrev pub Lends : (old : C) (result : Option (Ref K × OwnSeal V)) → Type 0
  Lends old result =
      OfLeft old (λ most m es. MatchOption result
      (es ≡ [])
      (λ r. (e : Place) × (rest : List Place) × (es ≡ e ∷ rest) × IsLent v.SIZE (bytes_of old) e.key e.value r.0 r.1))

  -- a closure may be called with the next entry that is left
  abbrev pub MayVisit : {F : Type 0} (pre : F → Ref K → MutBor (OwnSeal V) → Type 0) (cursor : C) (f : F) → Type 0
  MayVisit pre cursor f =
      (most : ℕ) (m : BegunMap most k.shape v.shape k.knows v.knows) (e : Place) (rest : List Place)
      → left cursor most m (e ∷ rest)
      → IsWritten m (bytes_of cursor)
      → MayCallWith pre f k.shape k.knows v.SIZE (bytes_of cursor) e

  -- a call is lent the next entry that is left, if there is one, and the entry is passed; else nothing changes
  abbrev pub Visits : {F R : Type 0} (step : F → Ref K → MutBor (OwnSeal V) → R → MutBor (OwnSeal V) → F → Type 0) (old : C) (f : F) (result : Option R)
      (new : C) (g : F) → Type 0
  Visits step old f result new g =
      OfLeft old (λ most m es. VisitsNext
      (λ e answer. CallsSealed step v.SIZE f (bytes_of old) e answer g (bytes_of new))
      ((g ≡ f) × (bytes_of new ≡ bytes_of old))
      (λ rest. left new most m rest × IsWritten m (bytes_of new)) es result)

module _ {K V : Type 0} (k : Ghosts K) (v : Ghosts V) where
  -- ---- walks over bytes

  -- a walk is over some map, and has some of its entries left
  abbrev pub IsWalkOver : (bytes : List ℕ) (walk : EntryWalk) → Type 0
  IsWalkOver bytes = IsOver k v (λ walk most m. GoesOn m walk) (λ walk. bytes)

  -- the next entry that a walk has left, if there is one, is passed
  abbrev pub WalkPasses : (bytes : List ℕ) (old : EntryWalk) (result : Option EntryAt) (new : EntryWalk) → Type 0
  WalkPasses bytes = Passes k v (λ walk most m. GoesOn m walk) (λ walk. bytes)

  -- ---- cursors over all entries

  -- a cursor is over some map, and has some of its entries left
  abbrev pub IsIterOver : (cursor : IterSeal K V) → Type 0
  IsIterOver = IsOver k v (λ c most m. HasEntries m c) (λ c. c.bytes.now)

  -- a cursor begins with the entries that a walk has left, and their number
  abbrev pub IterBegins : (walk : EntryWalk) (len : ℕ) (cursor : IterSeal K V) → Type 0
  IterBegins walk len cursor =
      (most : ℕ) (m : BegunMap most k.shape v.shape k.knows v.knows) (es : List Place) → GoesOn m walk es → len ≡ length es → HasEntries m cursor es

  -- the next entry that a cursor has left, if there is one, is passed
  abbrev pub IterPasses : (old : IterSeal K V) (result : Option EntryAt) (new : IterSeal K V) → Type 0
  IterPasses = Passes k v (λ c most m. HasEntries m c) (λ c. c.bytes.now)

  -- the next entry that a cursor has left, if there is one, is lent
  abbrev pub IterLends : (old : IterSeal K V) (result : Option (Ref K × OwnSeal V)) → Type 0
  IterLends = Lends k v (λ c most m. HasEntries m c) (λ c. c.bytes.now)

  -- a closure may be called with the next entry that a cursor has left
  abbrev pub IterMayVisit : {F : Type 0} (pre : F → Ref K → MutBor (OwnSeal V) → Type 0) (cursor : IterSeal K V) (f : F) → Type 0
  IterMayVisit pre = MayVisit k v (λ c most m. HasEntries m c) (λ c. c.bytes.now) pre

  -- a call is lent the next entry that a cursor has left, if there is one, and the entry is passed
  abbrev pub IterVisits : {F R : Type 0} (step : F → Ref K → MutBor (OwnSeal V) → R → MutBor (OwnSeal V) → F → Type 0) (old : IterSeal K V) (f : F)
      (result : Option R) (new : IterSeal K V) (g : F) → Type 0
  IterVisits step = Visits k v (λ c most m. HasEntries m c) (λ c. c.bytes.now) step

  -- the number of entries that a cursor has left
  abbrev pub CountsLeft : (cursor : IterSeal K V) (result : ℕ) → Type 0
  CountsLeft cursor result =
      (most : ℕ) (m : BegunMap most k.shape v.shape k.knows v.knows) (es : List Place) → HasEntries m cursor es → result ≡ length es

  -- ---- cursors over the entries between two bounds

  -- a cursor is over some map, and has some of its entries left
  abbrev pub IsRangeOver : (cursor : RangeSeal K V) → Type 0
  IsRangeOver = IsOver k v (λ c most m. HasRange m c) (λ c. c.bytes.now)

  -- a cursor begins with the entries that a walk has left
  abbrev pub RangeBegins : (walk : EntryWalk) (cursor : RangeSeal K V) → Type 0
  RangeBegins walk cursor =
      (most : ℕ) (m : BegunMap most k.shape v.shape k.knows v.knows) (es : List Place) → GoesOn m walk es → HasRange m cursor es

  -- the next entry that a cursor has left, if there is one, is passed
  abbrev pub RangePasses : (old : RangeSeal K V) (result : Option EntryAt) (new : RangeSeal K V) → Type 0
  RangePasses = Passes k v (λ c most m. HasRange m c) (λ c. c.bytes.now)

  -- the next entry that a cursor has left, if there is one, is lent
  abbrev pub RangeLends : (old : RangeSeal K V) (result : Option (Ref K × OwnSeal V)) → Type 0
  RangeLends = Lends k v (λ c most m. HasRange m c) (λ c. c.bytes.now)

  -- a closure may be called with the next entry that a cursor has left
  abbrev pub RangeMayVisit : {F : Type 0} (pre : F → Ref K → MutBor (OwnSeal V) → Type 0) (cursor : RangeSeal K V) (f : F) → Type 0
  RangeMayVisit pre = MayVisit k v (λ c most m. HasRange m c) (λ c. c.bytes.now) pre

  -- a call is lent the next entry that a cursor has left, if there is one, and the entry is passed
  abbrev pub RangeVisits : {F R : Type 0} (step : F → Ref K → MutBor (OwnSeal V) → R → MutBor (OwnSeal V) → F → Type 0) (old : RangeSeal K V) (f : F)
      (result : Option R) (new : RangeSeal K V) (g : F) → Type 0
  RangeVisits step = Visits k v (λ c most m. HasRange m c) (λ c. c.bytes.now) step

  -- ---- cursors over values

  -- P holds of each map that a cursor is over, and the entries whose values it has left
  abbrev pub OfValuesLeft : (cursor : ValuesSeal K V) (P : (most : ℕ) → BegunMap most k.shape v.shape k.knows v.knows → List Place → Type 0) → Type 0
  OfValuesLeft = OfLeft k v (λ c most m. HasValues m c) (λ c. c.entries.bytes.now)

  -- a cursor is over some map, and has some of its values left
  abbrev pub AreValuesOver : (cursor : ValuesSeal K V) → Type 0
  AreValuesOver = IsOver k v (λ c most m. HasValues m c) (λ c. c.entries.bytes.now)

  -- the next value that is left, if there is one, is passed, and its position returned
  abbrev pub ValuesPass : (old : ValuesSeal K V) (result : Option ℕ) (new : ValuesSeal K V) → Type 0
  ValuesPass old result new =
      OfValuesLeft old (λ most m es. MatchOption result
      ((es ≡ []) × HasValues m new [])
      (λ at. (e : Place) × (rest : List Place) × (es ≡ e ∷ rest) × (e.value ≡ at) × HasValues m new rest))

  -- the next value that is left, if there is one, is lent
  abbrev pub ValuesLend : (old : ValuesSeal K V) (result : Option (OwnSeal V)) → Type 0
  ValuesLend old result =
      OfValuesLeft old (λ most m es. MatchOption result
      (es ≡ [])
      (λ r. (e : Place) × (rest : List Place) × (es ≡ e ∷ rest) × IsOwn v.SIZE old.entries.bytes.now e.value r))

  -- a closure may be called with the next value that is left
  abbrev pub ValuesMayVisit : {F : Type 0} (pre : F → MutBor (OwnSeal V) → Type 0) (cursor : ValuesSeal K V) (f : F) → Type 0
  ValuesMayVisit pre cursor f =
      (most : ℕ) (m : BegunMap most k.shape v.shape k.knows v.knows) (e : Place) (rest : List Place) (value : MutBor (OwnSeal V))
      → HasValues m cursor (e ∷ rest)
      → IsWritten m cursor.entries.bytes.now
      → IsOwn v.SIZE cursor.entries.bytes.now e.value value.now
      → pre f value

  -- a call is lent the next value that is left, if there is one, and the value is passed; else nothing changes
  abbrev pub ValuesVisit : {F R : Type 0} (step : F → MutBor (OwnSeal V) → R → MutBor (OwnSeal V) → F → Type 0) (old : ValuesSeal K V) (f : F)
      (result : Option R) (new : ValuesSeal K V) (g : F) → Type 0
  ValuesVisit step old f result new g =
      OfValuesLeft old (λ most m es. VisitsNext
      (λ e answer. LeavesOwn v.SIZE old.entries.bytes.now e.value (λ value left. step f value answer left g) new.entries.bytes.now)
      ((g ≡ f) × (new.entries.bytes.now ≡ old.entries.bytes.now))
      (λ rest. HasValues m new rest × IsWritten m new.entries.bytes.now) es result)
