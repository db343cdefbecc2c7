-- What is ensured of the entries of a map between two bounds.
use denote.Ref.{Bor}
use Rattle.std.specs.Prelude.{◌≡◌, ℕ, List, All, map}
use Rattle.std.specs.Range.Bound.{bound_map}
use Rattle.std.specs.declared.cmp.Ordering.{Ordering}
use Rattle.std.specs.declared.ops.Bound.{Bound}
use Rattle.std.specs.declared.ops.RangeBounds as bounds
use Rattle.archive_shape_layout.specs.Shape.{Shape}
use Rattle.archive_shape.specs.declared.references.refs.Ref.{Ref}
use Rattle.archive_shape.specs.declared.types.portable.Portable.{Ghosts}
use Rattle.archive_btree_layout.specs.Tree.{Tree, items}
use Rattle.archive_btree_layout.specs.Descent.{Ascends}
use Rattle.archive_btree_layout.specs.Reading.{Place}
use Rattle.archive_forms_values.specs.Parts.{HasValue}
use Rattle.archive_btree_maps.specs.Bounds.{OfQueries, OrdersCalls, CallsOrderOf, MayCompare, items_between}
use Rattle.archive_btree_maps.specs.Lookups.{QueryOrders}
use Rattle.archive_btree_maps.specs.Maps.{IsMap, IsMapAt}
use Rattle.archive_btree_maps.specs.Ranges.{IsRun}
use Rattle.archive_btree_maps.specs.Refs.{entry_at}
use Rattle.archive_btree_maps.specs.Walks.{WalksIn}
use Rattle.archive_btree_maps.specs.declared.nodes.searching.stepping.EntryWalk.{EntryWalk}

-- ---- in the map at a position: calls return how the query of a bound compares with the key at a position

module _ (most : ℕ) (k v : Shape) (bytes : List ℕ) (pos : ℕ) where
  -- the closure may be called with the query of each bound and the position of each key
  abbrev pub MayCompareBounds : {C Q : Type 0} (pre : C → Bor Q → ℕ → Type 0) (compare : C) (start end : Bound (Bor Q)) → Type 0
  MayCompareBounds pre compare start end =
      (t : Tree Place) → IsMapAt bytes most k v pos t → All (λ e. OfQueries (λ query. pre compare query e.key) start end) (items t)

  -- P holds of the entries between two bounds, by an order that is that of the calls, and by which the keys ascend
  abbrev pub OfBounds : {C Q : Type 0} (post : C → Bor Q → ℕ → Ordering → Type 0) (compare : C) (start end : Bound (Bor Q)) (P : List Place → Type 0) → Type 0
  OfBounds {Q = Q} post compare start end P =
      (t : Tree Place) (order : Q → Place → Ordering)
      → IsMapAt bytes most k v pos t
      → OfQueries (λ query. OrdersCalls post compare query (order query.now) (items t)) start end
      → P (items_between order (bound_map (λ q. q.now) start) (bound_map (λ q. q.now) end) (items t))

  -- a walk has entries left that lie side by side in the map
  abbrev pub WalksRun : (walk : EntryWalk) → Type 0
  WalksRun walk = (t : Tree Place) → IsMapAt bytes most k v pos t → (es : List Place) × WalksIn bytes most k v pos walk es × IsRun es (items t)

  -- a walk has the entries between two bounds left
  abbrev pub WalksBounds : {C Q : Type 0} (post : C → Bor Q → ℕ → Ordering → Type 0) (compare : C) (start end : Bound (Bor Q)) (walk : EntryWalk) → Type 0
  WalksBounds post compare start end walk = OfBounds post compare start end (WalksIn bytes most k v pos walk)

  -- these entries lie side by side in the map
  abbrev pub IsRunAt : (es : List Place) → Type 0
  IsRunAt es = (t : Tree Place) → IsMapAt bytes most k v pos t → IsRun es (items t)

  -- these are the entries between two bounds
  abbrev pub AreInBounds : {C Q : Type 0} (post : C → Bor Q → ℕ → Ordering → Type 0) (compare : C) (start end : Bound (Bor Q)) (es : List Place) → Type 0
  AreInBounds post compare start end es = OfBounds post compare start end (λ between. es ≡ between)

-- ---- in the map that a reference leads to

-- a closure may be called with the query of each bound of a range and each key of a map
abbrev pub MayCompareRange : {F Q K M R : Type 0} (most : ℕ) (k : Ghosts K) (v : Shape) (pre : F → Bor Q → Ref K → Type 0) (f : F)
    (r : bounds.Ghosts R Q) (this : Ref M) (range : R) → Type 0
MayCompareRange most k v pre f r this range =
    (t : Tree Place) → IsMap most k.shape v this t
    → All (λ e. HasValue k.shape k.knows this.bytes.now e.key → MayCompare pre f (r.has_bounds range) (r.start_bound range) (r.end_bound range) this.bytes e)
    (items t)

-- an order is that of the comparisons with the query of each bound of a range, and the keys ascend by it
abbrev pub OrdersRange : {Q R : Type 0} (orders : Q → (Place → Ordering) → List Place → Type 0) (r : bounds.Ghosts R Q) (range : R)
    (order : Q → Place → Ordering) (es : List Place) → Type 0
OrdersRange orders r range order es = OfQueries (λ query. orders query (order query) es × Ascends (order query) es) (r.start_bound range) (r.end_bound range)

-- the entries in a range
abbrev pub items_in : {Q R : Type 0} (r : bounds.Ghosts R Q) (range : R) (order : Q → Place → Ordering) (es : List Place) → List Place
items_in r range order es = items_between order (r.start_bound range) (r.end_bound range) es

module _ {M K V : Type 0} (most : ℕ) (k v : Shape) where
  -- these entries lie side by side in the map
  abbrev pub RangesOverRun : (this : Ref M) (result : List (Ref K × Ref V)) → Type 0
  RangesOverRun this result = (t : Tree Place) → IsMap most k v this t → IsRun result (map (entry_at this.bytes) (items t))

  -- these are the entries in a range, by the comparison that keys have with its queries
  abbrev pub RangesOver : {R Q : Type 0} (key_of : List ℕ → ℕ → Q → Type 0) (key_order : Q → Q → Ordering) (r : bounds.Ghosts R Q) (this : Ref M)
      (range : R) (result : List (Ref K × Ref V)) → Type 0
  RangesOver {Q = Q} key_of key_order r this range result =
      (t : Tree Place) (order : Q → Place → Ordering)
      → IsMap most k v this t
      → r.has_bounds range
      → OrdersRange (QueryOrders key_of key_order this.bytes.now) r range order (items t)
      → result ≡ map (entry_at this.bytes) (items_in r range order (items t))

  -- these are the entries in a range, by calls of a closure
  abbrev pub RangesBy : {R Q F : Type 0} (post : F → Bor Q → Ref K → Ordering → Type 0) (f : F) (r : bounds.Ghosts R Q) (this : Ref M)
      (range : R) (result : List (Ref K × Ref V)) → Type 0
  RangesBy {Q = Q} post f r this range result =
      (t : Tree Place) (order : Q → Place → Ordering)
      → IsMap most k v this t
      → r.has_bounds range
      → OrdersRange (λ query. CallsOrderOf post f query this.bytes) r range order (items t)
      → result ≡ map (entry_at this.bytes) (items_in r range order (items t))
