-- What the look-ups of keys in maps require and ensure.
use Rattle.std.specs.Prelude.{◌≡◌, ℕ, ◌-◌, ◌^◌, Bool, IsTrue, List, Option, min, All, Contains}
use Rattle.std.specs.Option.{option_map, is_some}
use Rattle.std.specs.declared.cmp.Ordering.{Ordering}
use Rattle.archive_shape_layout.specs.Shape.{Shape}
use Rattle.archive_shape.specs.declared.references.refs.Ref.{Ref}
use Rattle.archive_shape.specs.declared.steps.Steps.{Steps}
use Rattle.archive_shape.specs.declared.types.portable.Portable.{Ghosts}
use Rattle.archive_btree_layout.specs.Tree.{Tree, items}
use Rattle.archive_btree_layout.specs.Descent.{descend, met}
use Rattle.archive_btree_layout.specs.Reading.{Place}
use Rattle.archive_forms_values.specs.Parts.{HasValue}
use Rattle.archive_btree_maps.specs.Descents.{DescendsTo}
use Rattle.archive_btree_maps.specs.Lookups.{QueryOrders, QuerySays, IsEqualKey, CallsEqual, CallsOrder, Finds, LooksUp}
use Rattle.archive_btree_maps.specs.Maps.{IsMap, IsMapAt}
use Rattle.archive_btree_maps.specs.Refs.{key_at, value_at, entry_at}

-- where the entries of a map are in some order, P holds of the entry that the descent by this order ends at
abbrev pub OfDescent : (most : ℕ) (k v : Shape) (bytes : List ℕ) (pos : ℕ) (orders : (Place → Ordering) → List Place → Type 0)
    (P : Option Place → Type 0) → Type 0
OfDescent most k v bytes pos orders P =
    (t : Tree Place) (order : Place → Ordering) → IsMapAt bytes most k v pos t → orders order (items t) → P (descend order t)

-- ---- look-ups of a query by the comparison that keys have with it

module _ {M Q : Type 0} (most : ℕ) (k v : Shape) (key_of : List ℕ → ℕ → Q → Type 0) (key_order : Q → Q → Ordering) (this : Ref M) (query : Q) where
  -- what is found, if anything is, is what an entry has whose key is equal to the query
  abbrev pub FindsOf : {A : Type 0} (of : Place → A) (found : Option A) → Type 0
  FindsOf of found = (t : Tree Place) → IsMap most k v this t → Finds of (IsEqualKey key_of key_order this.bytes.now query) (items t) found

  -- what is found is what the entry has that the search for the query ends at
  abbrev pub LooksUpOf : {A : Type 0} (of : Place → A) (found : Option A) → Type 0
  LooksUpOf of found = (t : Tree Place) → IsMap most k v this t → LooksUp of key_of key_order this.bytes.now query t found

  -- what is found is what the entry has that the descent ends at, by an order that is that of the comparisons
  abbrev pub AnswersOf : {A : Type 0} (of : Place → A) (found : Option A) → Type 0
  AnswersOf of found =
      OfDescent most k v this.bytes.now this.pos (QueryOrders key_of key_order this.bytes.now query) (λ entry. found ≡ option_map of entry)

  -- the value of an entry is found whose key is equal
  abbrev pub FindsValue : {V : Type 0} (found : Option (Ref V)) → Type 0
  FindsValue found = FindsOf (value_at this.bytes) found

  -- the value of the entry is found that the search ends at
  abbrev pub LooksUpValue : {V : Type 0} (found : Option (Ref V)) → Type 0
  LooksUpValue found = LooksUpOf (value_at this.bytes) found

  -- the value of the entry is found that the descent ends at
  abbrev pub AnswersValue : {V : Type 0} (found : Option (Ref V)) → Type 0
  AnswersValue found = AnswersOf (value_at this.bytes) found

  -- a key is found that is equal
  abbrev pub FindsKey : {K : Type 0} (found : Option (Ref K)) → Type 0
  FindsKey found = FindsOf (key_at this.bytes) found

  -- the key of the entry is found that the search ends at
  abbrev pub LooksUpKey : {K : Type 0} (found : Option (Ref K)) → Type 0
  LooksUpKey found = LooksUpOf (key_at this.bytes) found

  -- the key of the entry is found that the descent ends at
  abbrev pub AnswersKey : {K : Type 0} (found : Option (Ref K)) → Type 0
  AnswersKey found = AnswersOf (key_at this.bytes) found

  -- an entry is found whose key is equal
  abbrev pub FindsEntry : {K V : Type 0} (found : Option (Ref K × Ref V)) → Type 0
  FindsEntry found = FindsOf (entry_at this.bytes) found

  -- the entry is found that the search ends at
  abbrev pub LooksUpEntry : {K V : Type 0} (found : Option (Ref K × Ref V)) → Type 0
  LooksUpEntry found = LooksUpOf (entry_at this.bytes) found

  -- the entry is found that the descent ends at
  abbrev pub AnswersEntry : {K V : Type 0} (found : Option (Ref K × Ref V)) → Type 0
  AnswersEntry found = AnswersOf (entry_at this.bytes) found

  -- where the answer is true, some key is equal to the query
  abbrev pub FindsWhether : (found : Bool) → Type 0
  FindsWhether found =
      (t : Tree Place) → IsMap most k v this t
      → IsTrue found → (e : Place) × Contains (items t) e × IsEqualKey key_of key_order this.bytes.now query e

  -- the answer is whether the search ends at an entry
  abbrev pub LooksUpWhether : (found : Bool) → Type 0
  LooksUpWhether found =
      (t : Tree Place) → IsMap most k v this t
      → (entry : Option Place) × DescendsTo (QuerySays key_of key_order this.bytes.now query) t entry × (found ≡ is_some entry)

  -- the answer is whether the descent ends at an entry
  abbrev pub AnswersWhether : (found : Bool) → Type 0
  AnswersWhether found =
      OfDescent most k v this.bytes.now this.pos (QueryOrders key_of key_order this.bytes.now query) (λ entry. found ≡ is_some entry)

  -- the value of the entry is found that the descent ends at, and the entries that it compares are counted
  abbrev pub AnswersValueCounted : {V : Type 0} (result : Option (Ref V) × Steps) → Type 0
  AnswersValueCounted result =
      (t : Tree Place) (order : Place → Ordering)
      → IsMap most k v this t
      → QueryOrders key_of key_order this.bytes.now query order (items t)
      → (result.0 ≡ option_map (value_at this.bytes) (descend order t)) × (result.1.comparisons ≡ min (met order t) (2 ^ 64 - 1))

-- a closure may be called with a query and each key of a map
abbrev pub MayCompareKeys : {F Q K M : Type 0} (most : ℕ) (k : Ghosts K) (v : Shape) (pre : F → Q → Ref K → Type 0) (f : F) (this : Ref M) (query : Q)
    → Type 0
MayCompareKeys most k v pre f this query =
    (t : Tree Place) → IsMap most k.shape v this t
    → All (λ e. HasValue k.shape k.knows this.bytes.now e.key → pre f query (key_at this.bytes e)) (items t)

-- ---- look-ups of a query by calls of a closure

module _ {F Q K V M : Type 0} (most : ℕ) (k v : Shape) (post : F → Q → Ref K → Ordering → Type 0) (f : F) (this : Ref M) (query : Q) where
  -- an entry is found whose key a call says to be equal
  abbrev pub FindsEntryBy : (found : Option (Ref K × Ref V)) → Type 0
  FindsEntryBy found = (t : Tree Place) → IsMap most k v this t → Finds (entry_at this.bytes) (CallsEqual post f query this.bytes) (items t) found

  -- the entry is found that the descent ends at, by an order that is that of the calls
  abbrev pub AnswersEntryBy : (found : Option (Ref K × Ref V)) → Type 0
  AnswersEntryBy found =
      OfDescent most k v this.bytes.now this.pos (CallsOrder post f query this.bytes) (λ entry. found ≡ option_map (entry_at this.bytes) entry)
