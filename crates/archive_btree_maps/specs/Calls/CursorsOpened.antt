-- What the calls that open a cursor over the map of a seal require and ensure.
use denote.Ref.{Bor}
use Rattle.std.specs.Prelude.{◌≡◌, ℕ, List, All}
use Rattle.std.specs.declared.cmp.Ordering.{Ordering}
use Rattle.std.specs.declared.ops.RangeBounds as bounds
use Rattle.archive_shape_layout.specs.Shape.{Shape}
use Rattle.archive_shape.specs.declared.references.refs.Ref.{Ref}
use Rattle.archive_shape.specs.declared.references.seal.Seal.{Seal}
use Rattle.archive_shape.specs.declared.types.portable.Portable.{Ghosts}
use Rattle.archive_btree_layout.specs.Tree.{Tree, items}
use Rattle.archive_btree_layout.specs.Reading.{Place}
use Rattle.archive_forms_values.specs.Parts.{HasValue}
use Rattle.archive_btree_maps.specs.Bounds.{CallsOrderOf, MayCompare}
use Rattle.archive_btree_maps.specs.Calls.Ranges.{OrdersRange, items_in}
use Rattle.archive_btree_maps.specs.Cursors.{HasEntries, HasRange}
use Rattle.archive_btree_maps.specs.Lookups.{QueryOrders}
use Rattle.archive_btree_maps.specs.Maps.{IsMapAt}
use Rattle.archive_btree_maps.specs.Walks.{BegunMap, IsWritten}
use Rattle.archive_btree_maps.specs.declared.walking.sealing.iter.IterSeal.{IterSeal}
use Rattle.archive_btree_maps.specs.declared.walking.sealing.range.RangeSeal.{RangeSeal}

-- a closure may be called with the query of each bound of a range and each key of a map, regardless of where its bytes
-- are lent
abbrev pub MayCompareRangeLent : {F Q K M R : Type 0} (most : ℕ) (k : Ghosts K) (v : Shape) (pre : F → Bor Q → Ref K → Type 0) (f : F)
    (r : bounds.Ghosts R Q) (this : Seal M) (range : R) → Type 0
MayCompareRangeLent most k v pre f r this range =
    (t : Tree Place) (lent : Bor (List ℕ))
    → IsMapAt this.bytes.now most k.shape v this.pos t
    → lent.now ≡ this.bytes.now
    → All (λ e. HasValue k.shape k.knows this.bytes.now e.key → MayCompare pre f (r.has_bounds range) (r.start_bound range) (r.end_bound range) lent e)
    (items t)

module _ {M K V : Type 0} (most : ℕ) (k : Ghosts K) (v : Ghosts V) where
  -- a cursor has all entries of the map left
  abbrev pub IterOpens : (this : Seal M) (result : IterSeal K V) → Type 0
  IterOpens this result =
      (m : BegunMap most k.shape v.shape k.knows v.knows)
      → m.bytes ≡ this.bytes.now
      → m.pos ≡ this.pos
      → HasEntries m result (items m.search_tree) × IsWritten m result.bytes.now

  -- a cursor has some entries of the map left
  abbrev pub RangeOpens : (this : Seal M) (result : RangeSeal K V) → Type 0
  RangeOpens this result =
      (m : BegunMap most k.shape v.shape k.knows v.knows)
      → m.bytes ≡ this.bytes.now
      → m.pos ≡ this.pos
      → (es : List Place) × HasRange m result es × IsWritten m result.bytes.now

  -- a cursor has the entries in a range left, by the comparison that keys have with queries
  abbrev pub RangeOpensOver : {R Q : Type 0} (key_of : List ℕ → ℕ → Q → Type 0) (key_order : Q → Q → Ordering) (r : bounds.Ghosts R Q) (this : Seal M)
      (range : R) (result : RangeSeal K V) → Type 0
  RangeOpensOver {Q = Q} key_of key_order r this range result =
      (m : BegunMap most k.shape v.shape k.knows v.knows) (order : Q → Place → Ordering)
      → m.bytes ≡ this.bytes.now
      → m.pos ≡ this.pos
      → r.has_bounds range
      → OrdersRange (QueryOrders key_of key_order this.bytes.now) r range order (items m.search_tree)
      → HasRange m result (items_in r range order (items m.search_tree))

  -- a cursor has the entries in a range left, by calls of a closure, regardless of where the bytes are lent
  abbrev pub RangeOpensBy : {R Q F : Type 0} (post : F → Bor Q → Ref K → Ordering → Type 0) (f : F) (r : bounds.Ghosts R Q) (this : Seal M)
      (range : R) (result : RangeSeal K V) → Type 0
  RangeOpensBy {Q = Q} post f r this range result =
      (m : BegunMap most k.shape v.shape k.knows v.knows) (order : Q → Place → Ordering)
      → m.bytes ≡ this.bytes.now
      → m.pos ≡ this.pos
      → r.has_bounds range
      → ((lent : Bor (List ℕ)) → lent.now ≡ this.bytes.now → OrdersRange (λ query. CallsOrderOf post f query lent) r range order (items m.search_tree))
      → HasRange m result (items_in r range order (items m.search_tree))
