-- The entries of a map between two bounds are those whose keys lie there.
use Rattle.std.proofs.Common.{◌≡◌, ◌∙◌, ℕ, Bool, true, false, List, map, refl, ap, ap₂, sym, subst}
use Rattle.std.specs.Prelude.{not, ◌&&◌}
use Rattle.std.specs.BTreeMap.Range.{is_from_start, is_past_end, range_contains}
use Rattle.std.specs.Cmp.{IsTotalOrder}
use Rattle.std.specs.List.{AllZip}
use Rattle.std.specs.Ordering.{is_lt, is_le, is_gt, is_ge, ordering_reverse}
use Rattle.std.specs.declared.cmp.Ordering.{Ordering}
use Rattle.std.specs.declared.cmp.Ordering.TheVariants.{Less, Equal, Greater}
use Rattle.std.specs.declared.ops.Bound.{Bound}
use Rattle.std.specs.declared.ops.Bound.TheVariants.{Included, Excluded, Unbounded}
use Rattle.std.specs.declared.ops.RangeBounds as bounds
use Rattle.archive_shape_layout.specs.Shape.{Shape}
use Rattle.archive_shape_layout.specs.Content.{Names}
use Rattle.archive_shape.specs.Key.{HeldAt}
use Rattle.archive_shape.specs.declared.references.refs.Ref.{Ref}
use Rattle.archive_forms_laws.specs.State.{State}
use Rattle.archive_forms_laws.specs.Spelling.{Spelling}
use Rattle.archive_btree_layout.specs.Descent.{Ascends}
use Rattle.archive_btree_layout.specs.Reading.{Place}
use Rattle.archive_btree_layout.specs.Tree.{items}
use Rattle.archive_btree_maps.specs.Bounds.{is_before, is_behind, items_between}
use Rattle.archive_btree_maps.specs.Calls.Ranges.{RangesOver}
use Rattle.archive_btree_maps.specs.Lookups.{QueryOrders}
use Rattle.archive_btree_maps.specs.Refs.{entry_at}
use Rattle.archive_btree_maps.proofs.Between.{of_each}
use Rattle.archive_btree.specs.Answering.{HasEntry, AnswersKeys}
use Rattle.archive_btree.specs.Ranges.{entries_in, IsOfEntry}
use Rattle.archive_btree.proofs.Finding.{order_of, orders_right, each_compared, orders_ascend}
use Rattle.archive_btree.proofs.Zipped.{both_zip, zip_as, zip_each, zip_kept, zip_seen}

not_greater : (o : Ordering) → not (is_gt o) ≡ is_le o
not_greater Less = refl
not_greater Equal = refl
not_greater Greater = refl

not_from : (o : Ordering) → not (is_ge o) ≡ is_lt o
not_from Less = refl
not_from Equal = refl
not_from Greater = refl

-- a place and a key with which every query compares alike: whether they lie between two bounds
module _ {Q : Type 0} (orders : Q → Place → Ordering) (order : Q → Q → Ordering) (p : Place) (key : Q) (same : (query : Q) → orders query p ≡ order query key) where
  from_start : (start : Bound Q) → not (is_before orders start p) ≡ is_from_start order start key
  from_start (Included query) = ap (λ o. not (is_gt o)) (same query) ∙ not_greater (order query key)
  from_start (Excluded query) = ap (λ o. not (is_ge o)) (same query) ∙ not_from (order query key)
  from_start Unbounded = refl

  past_end : (end : Bound Q) → is_behind orders end p ≡ is_past_end order end key
  past_end (Included query) = ap is_lt (same query)
  past_end (Excluded query) = ap is_le (same query)
  past_end Unbounded = refl

  kept_alike : (start end : Bound Q) → (not (is_before orders start p) && not (is_behind orders end p)) ≡ range_contains order start end key
  kept_alike start end = ap₂ (λ a b. a && not b) (from_start start) (past_end end)

module _ {A B R P Q D S : Type 0} (most : ℕ) (k v : Shape) (knows others : Names → Type 0) (keys : Spelling A R) (vals : Spelling B P) (this : Ref D) (key : A → Q) (order : Q → Q → Ordering) (total : IsTotalOrder order)
    (key_of : List ℕ → ℕ → Q → Type 0) (represents : (x : A) (st : State) (pos : ℕ) → HeldAt k knows this.bytes.now pos (keys.value x st) → key_of this.bytes.now pos (key x))
    (one_key : (pos : ℕ) (a b : Q) → key_of this.bytes.now pos a → key_of this.bytes.now pos b → (query : Q) → order a query ≡ order b query) (r : bounds.Ghosts S Q) (range : S) (bounded : r.has_bounds range)
    (es : List (A × B)) (answers : AnswersKeys most k v knows others keys vals this.bytes.now key order key_of this.pos es) where
  abbrev IsEntry : Place → A × B → Type 0
  IsEntry p e = HasEntry most k v knows others keys vals this.bytes.now p e

  abbrev ps : List Place
  ps = items answers.search_tree

  entry_key : (p : Place) (e : A × B) → IsEntry p e → key_of this.bytes.now p.key (key e.0)
  entry_key p e h = represents e.0 h.state p.key h.key_held

  abbrev orders : Q → Place → Ordering
  orders query = order_of this.bytes.now key order total key_of one_key IsEntry entry_key answers.search_tree es answers.walks answers.ascend query

  right : (query : Q) → QueryOrders key_of order this.bytes.now query (orders query) ps
  right query = orders_right this.bytes.now key order total key_of one_key IsEntry entry_key answers.search_tree es answers.walks answers.ascend query

  in_order : (query : Q) → QueryOrders key_of order this.bytes.now query (orders query) ps × Ascends (orders query) ps
  in_order query = (right query, orders_ascend this.bytes.now key order total key_of one_key IsEntry entry_key answers.search_tree es answers.walks answers.ascend query (orders query) (right query))

  -- how a query compares with each place is how it does with the key of the entry there
  compared : (query : Q) → AllZip (λ p e. orders query p ≡ order query (key e.0)) ps es
  compared query =
      zip_as (λ p e. IsEntry p e × (orders query p ≡ ordering_reverse (order (key e.0) query))) (λ p e. orders query p ≡ order query (key e.0)) (λ p e h. h.1 ∙ sym (total.antisymm query (key e.0))) ps es
      (each_compared this.bytes.now key order total key_of one_key IsEntry entry_key answers.search_tree es answers.walks answers.ascend query (orders query) (right query))

  module _ {H C : Type 0} where
    abbrev pair_at : Place → Ref H × Ref C
    pair_at p = entry_at this.bytes p

    abbrev IsPairOf : Ref H × Ref C → A × B → Type 0
    IsPairOf pair e = IsOfEntry most k v knows others keys vals this pair e

    pub entries_between : (result : List (Ref H × Ref C)) → RangesOver most k v key_of order r this range result → AllZip IsPairOf result (entries_in r range key order es)
    entries_between result between =
        let start = r.start_bound range in
        let end = r.end_bound range in
        let Alike : Place → A × B → Type 0 = λ p e. (query : Q) → orders query p ≡ order query (key e.0) in
        let Kept : Place → A × B → Type 0 = λ p e. (not (is_before orders start p) && not (is_behind orders end p)) ≡ range_contains order start end (key e.0) in
        let alike : AllZip Alike ps es = zip_each IsEntry (λ query p e. orders query p ≡ order query (key e.0)) ps es answers.walks compared in
        let kept : AllZip Kept ps es = zip_as Alike Kept (λ p e h. kept_alike orders order p (key e.0) h start end) ps es alike in
        let both = both_zip IsEntry Kept ps es answers.walks kept in
        let there = zip_kept IsEntry (λ p. not (is_before orders start p) && not (is_behind orders end p)) (λ e. range_contains order start end (key e.0)) ps es both in
        let seen : AllZip (λ p e. IsPairOf (pair_at p) e) (items_between orders start end ps) (entries_in r range key order es) =
        zip_as IsEntry (λ p e. IsPairOf (pair_at p) e) (λ p e h. (p, refl, h)) (items_between orders start end ps) (entries_in r range key order es) there in
        let is : result ≡ map pair_at (items_between orders start end ps) = between answers.search_tree orders answers.map bounded (of_each _ in_order start, of_each _ in_order end) in
        subst (λ xs. AllZip IsPairOf xs (entries_in r range key order es)) (sym is) (zip_seen pair_at IsPairOf (items_between orders start end ps) (entries_in r range key order es) seen)
