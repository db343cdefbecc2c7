-- A key that a look-up has found, and what compares with a query.
use Rattle.std.proofs.Common.{◌≡◌, ◌∙◌, ℕ, List, Option, Some, None, All, ap, sym}
use Rattle.std.specs.Ordering.{ordering_reverse}
use Rattle.std.specs.declared.cmp.Ordering.{Ordering}
use Rattle.archive_shape_layout.specs.Shape.{Shape}
use Rattle.archive_btree_layout.specs.Descent.{descend}
use Rattle.archive_btree_layout.specs.Reading.{Place}
use Rattle.archive_btree_layout.specs.Tree.{Tree, items}
use Rattle.archive_btree_maps.specs.Descents.{DescendsTo}
use Rattle.archive_btree_maps.proofs.Said.{descend_once, descend_said}
use Rattle.archive_btree_maps.specs.Lookups.{QueryOrders, QuerySays, LooksUp, HasKey}
use Rattle.archive_btree_maps.specs.Maps.{IsMapAt}

module _ {Q : Type 0} (key_of : List ℕ → ℕ → Q → Type 0) (order : Q → Q → Ordering) (bytes : List ℕ) (query : Q) where
  -- a query's search ends at one entry
  pub one_entry : ((pos : ℕ) (a b : Q) → key_of bytes pos a → key_of bytes pos b → (other : Q) → order a other ≡ order b other)
      → (t : Tree Place) (x y : Option Place) → DescendsTo (QuerySays key_of order bytes query) t x → DescendsTo (QuerySays key_of order bytes query) t y → x ≡ y
  one_entry one t x y = descend_once (QuerySays key_of order bytes query) (λ e o p a b. a.2 ∙ ap ordering_reverse (one e.key a.0 b.0 a.1 b.1 query) ∙ sym b.2) x y t

  -- it ends where the descent by an order of all keys does, if there is one
  pub ordered_search : (orders : Place → Ordering) (t : Tree Place) → QueryOrders key_of order bytes query orders (items t)
      → All (λ e. (key : Q) × key_of bytes e.key key) (items t) → DescendsTo (QuerySays key_of order bytes query) t (descend orders t)
  ordered_search orders t right keys = descend_said (QuerySays key_of order bytes query) orders t (λ i d within. let k = keys i d within in (k.0, k.1, right i d within k.0 k.1))

  pub found_is_present : {A : Type 0} (of : Place → A) (most : ℕ) (k v : Shape) (pos : ℕ) (t : Tree Place) (x : A) → IsMapAt bytes most k v pos t
      → LooksUp of key_of order bytes query t (Some x) → HasKey key_of order bytes most k v pos query
  found_is_present of most k v pos t x map (None, ends, is) = absurd cc
  found_is_present of most k v pos t x map (Some entry, ends, is) = record { search_tree = t; entry = entry; map = map; found = ends }
