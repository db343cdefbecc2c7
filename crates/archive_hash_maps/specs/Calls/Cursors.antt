-- Cursors over the items of a table, and over the entries and the values of a map, which lend one at a time. The members
-- of types are `t`, `k` and `v`.
use denote.Ref.{MutBor}
use Rattle.std.specs.Prelude.{◌≡◌, ℕ, List, [], ◌∷◌, length, Option, MatchOption}
use Rattle.archive_shape_layout.specs.Shape.Shapes.{no_shapes}
use Rattle.archive_shape.specs.declared.references.refs.Ref.{Ref}
use Rattle.archive_shape.specs.declared.references.own_seal.OwnSeal.{OwnSeal}
use Rattle.archive_shape.specs.declared.types.portable.Portable.{Ghosts as Portable}
use Rattle.archive_forms_values.specs.Fields.{field_position}
use Rattle.archive_forms_values.specs.Loans.{IsOwn, LeavesOwn, VisitsNext}
use Rattle.archive_hash_maps.specs.Walks.{BegunTable, BegunMap, IsWritten, HasValuesWritten, items_of}
use Rattle.archive_hash_maps.specs.Cursors.{HasItems, HasEntries, HasValues}
use Rattle.archive_hash_maps.specs.Calls.Entries.{LendsAt, MayVisitAt, LeavesAt}
use Rattle.archive_hash_maps.specs.Calls.Walks.{BeginsWalk, IsItemWalk, WalksItem, IsEntryWalk, WalksEntry}
use Rattle.archive_hash_maps.specs.declared.walking.passing.EntryAt.{EntryAt}
use Rattle.archive_hash_maps.specs.declared.walking.raw_cursor.RawIterSeal.{RawIterSeal}
use Rattle.archive_hash_maps.specs.declared.walking.cursors.IterMut.{IterMut}
use Rattle.archive_hash_maps.specs.declared.walking.cursors.ValuesMut.{ValuesMut}

module _ {T : Type 0} (t : Portable T) where
  -- a cursor begins with all items of the table at a position
  abbrev pub BeginsTable : (bytes : List ℕ) (pos : ℕ) (cursor : RawIterSeal T) → Type 0
  BeginsTable bytes pos cursor = BeginsWalk t bytes pos cursor.walk cursor.bytes.now

  -- a cursor is one over the items of a table
  abbrev pub IsOverItems : (cursor : RawIterSeal T) → Type 0
  IsOverItems cursor = IsItemWalk t cursor.walk cursor.bytes.now

  -- the number is that of the items that are left
  abbrev pub CountsItems : (cursor : RawIterSeal T) (result : ℕ) → Type 0
  CountsItems cursor result = (m : BegunTable t.shape t.knows) (ps : List ℕ) → HasItems m cursor ps → result ≡ length ps

  -- the next item is passed, if one is left
  abbrev pub PassesItem : (old : RawIterSeal T) (result : Option ℕ) (new : RawIterSeal T) → Type 0
  PassesItem old result new = WalksItem t old.walk old.bytes.now result new.walk

  -- it is lent
  abbrev pub LendsItem : (old : RawIterSeal T) (result : Option (OwnSeal T)) → Type 0
  LendsItem old result =
      (m : BegunTable t.shape t.knows) (ps : List ℕ) → HasItems m old ps → IsWritten m old.bytes.now → MatchOption result
      (ps ≡ [])
      (λ r. (at : ℕ) × (rest : List ℕ) × (ps ≡ at ∷ rest) × IsOwn t.SIZE old.bytes.now at r)

  -- a call may be lent it
  abbrev pub MayVisitItem : (old : RawIterSeal T) (pre : MutBor (OwnSeal T) → Type 0) → Type 0
  MayVisitItem old pre =
      (m : BegunTable t.shape t.knows) (at : ℕ) (rest : List ℕ) (item : MutBor (OwnSeal T))
      → HasItems m old (at ∷ rest) → IsWritten m old.bytes.now → IsOwn t.SIZE old.bytes.now at item.now → pre item

  -- it is passed, and lent to a call
  abbrev pub VisitsItem : {R F : Type 0} (step : F → MutBor (OwnSeal T) → R → MutBor (OwnSeal T) → F → Type 0)
      (old new : RawIterSeal T) (early late : F) (result : Option R) → Type 0
  VisitsItem step old new early late result =
      (m : BegunTable t.shape t.knows) (ps : List ℕ) → HasItems m old ps → IsWritten m old.bytes.now → VisitsNext
      (λ at answer. LeavesOwn t.SIZE old.bytes.now at (λ item left. step early item answer left late) new.bytes.now)
      ((late ≡ early) × (new.bytes.now ≡ old.bytes.now))
      (λ rest. HasItems m new rest × IsWritten m new.bytes.now) ps result

module _ {K V : Type 0} (k : Portable K) (v : Portable V) where
  -- a cursor begins with all entries of the map at a position
  abbrev pub BeginsMap : (bytes : List ℕ) (pos : ℕ) (cursor : IterMut K V) → Type 0
  BeginsMap bytes pos cursor =
      (m : BegunMap k.shape v.shape k.knows v.knows) → m.bytes ≡ bytes → m.pos ≡ pos
      → HasEntries m cursor (items_of m) × HasValuesWritten m cursor.bytes.now

  -- a cursor is one over the entries of a map
  abbrev pub IsOverEntries : (cursor : IterMut K V) → Type 0
  IsOverEntries cursor = IsEntryWalk k v cursor.walk cursor.bytes.now

  -- the number is that of the entries that are left
  abbrev pub CountsEntries : (cursor : IterMut K V) (result : ℕ) → Type 0
  CountsEntries cursor result =
      (m : BegunMap k.shape v.shape k.knows v.knows) (ps : List ℕ) → HasEntries m cursor ps → result ≡ length ps

  -- the next entry is passed, if one is left
  abbrev pub PassesEntry : (old : IterMut K V) (result : Option EntryAt) (new : IterMut K V) → Type 0
  PassesEntry old result new = WalksEntry k v old.walk old.bytes.now result new.walk

  -- its key and its value are lent
  abbrev pub LendsEntry : (old : IterMut K V) (result : Option (Ref K × OwnSeal V)) → Type 0
  LendsEntry old result =
      (m : BegunMap k.shape v.shape k.knows v.knows) (ps : List ℕ) → HasEntries m old ps → HasValuesWritten m old.bytes.now
      → MatchOption result
      (ps ≡ [])
      (λ r. (at : ℕ) × (rest : List ℕ) × (ps ≡ at ∷ rest) × LendsAt k v old.bytes.now at r)

  -- a call may be lent both
  abbrev pub MayVisitEntry : (old : IterMut K V) (pre : Ref K → MutBor (OwnSeal V) → Type 0) → Type 0
  MayVisitEntry old pre =
      (m : BegunMap k.shape v.shape k.knows v.knows) (at : ℕ) (rest : List ℕ)
      → HasEntries m old (at ∷ rest) → HasValuesWritten m old.bytes.now → MayVisitAt k v old.bytes.now at pre

  -- it is passed, and both are lent to a call
  abbrev pub VisitsEntry : {R F : Type 0} (step : F → Ref K → MutBor (OwnSeal V) → R → MutBor (OwnSeal V) → F → Type 0)
      (old new : IterMut K V) (early late : F) (result : Option R) → Type 0
  VisitsEntry step old new early late result =
      (m : BegunMap k.shape v.shape k.knows v.knows) (ps : List ℕ) → HasEntries m old ps → HasValuesWritten m old.bytes.now
      → VisitsNext
      (λ at answer. LeavesAt k v old.bytes.now at (λ key value left. step early key value answer left late) new.bytes.now)
      ((late ≡ early) × (new.bytes.now ≡ old.bytes.now))
      (λ rest. HasEntries m new rest × HasValuesWritten m new.bytes.now) ps result

  -- ---- values

  -- the next value is passed, if one is left
  abbrev pub PassesValue : (old : ValuesMut K V) (result : Option ℕ) (new : ValuesMut K V) → Type 0
  PassesValue old result new =
      (m : BegunMap k.shape v.shape k.knows v.knows) (ps : List ℕ)
      → HasValues m old ps → HasValuesWritten m old.entries.bytes.now → MatchOption result
      ((ps ≡ []) × HasValues m new [])
      (λ at. (entry : ℕ) × (rest : List ℕ) × (ps ≡ entry ∷ rest)
      × (at ≡ field_position k.shape no_shapes v.shape entry) × HasValues m new rest)

  -- it is lent
  abbrev pub LendsValue : (old : ValuesMut K V) (result : Option (OwnSeal V)) → Type 0
  LendsValue old result =
      (m : BegunMap k.shape v.shape k.knows v.knows) (ps : List ℕ)
      → HasValues m old ps → HasValuesWritten m old.entries.bytes.now → MatchOption result
      (ps ≡ [])
      (λ r. (entry : ℕ) × (rest : List ℕ) × (ps ≡ entry ∷ rest)
      × IsOwn v.SIZE old.entries.bytes.now (field_position k.shape no_shapes v.shape entry) r)

  -- a call may be lent it
  abbrev pub MayVisitValue : (old : ValuesMut K V) (pre : MutBor (OwnSeal V) → Type 0) → Type 0
  MayVisitValue old pre =
      (m : BegunMap k.shape v.shape k.knows v.knows) (entry : ℕ) (rest : List ℕ) (value : MutBor (OwnSeal V))
      → HasValues m old (entry ∷ rest) → HasValuesWritten m old.entries.bytes.now
      → IsOwn v.SIZE old.entries.bytes.now (field_position k.shape no_shapes v.shape entry) value.now → pre value

  -- it is passed, and lent to a call
  abbrev pub VisitsValue : {R F : Type 0} (step : F → MutBor (OwnSeal V) → R → MutBor (OwnSeal V) → F → Type 0)
      (old new : ValuesMut K V) (early late : F) (result : Option R) → Type 0
  VisitsValue step old new early late result =
      (m : BegunMap k.shape v.shape k.knows v.knows) (ps : List ℕ)
      → HasValues m old ps → HasValuesWritten m old.entries.bytes.now → VisitsNext
      (λ entry answer. LeavesOwn v.SIZE old.entries.bytes.now (field_position k.shape no_shapes v.shape entry)
      (λ value left. step early value answer left late) new.entries.bytes.now)
      ((late ≡ early) × (new.entries.bytes.now ≡ old.entries.bytes.now))
      (λ rest. HasValues m new rest × HasValuesWritten m new.entries.bytes.now) ps result
