-- What the searches of a tree for a key require and ensure. `is` says which trees are searched, and `pre` and `post`
-- are those of calls of a comparison with the position of a key.
use Rattle.std.specs.Prelude.{◌≡◌, ℕ, ◌-◌, ◌^◌, List, Option, min, All}
use Rattle.std.specs.Option.{option_map}
use Rattle.std.specs.declared.cmp.Ordering.{Ordering}
use Rattle.archive_shape_layout.specs.Shape.{Shape}
use Rattle.archive_btree_layout.specs.Tree.{Tree, items}
use Rattle.archive_btree_layout.specs.Descent.{descend, met}
use Rattle.archive_btree_layout.specs.Reading.{Place}
use Rattle.archive_btree_maps.specs.Descents.{DescendsTo}
use Rattle.archive_btree_maps.specs.Lookups.{QueryOrders, QuerySays, IsEqualKey, Finds}
use Rattle.archive_btree_maps.specs.Maps.{IsMapAt}
use Rattle.archive_btree_maps.specs.Searching.{IsAmong, Orders}
use Rattle.archive_btree_maps.specs.SearchingLayout.{IsTreeAt}
use Rattle.archive_btree_maps.specs.SearchingNodes.{place_of}
use Rattle.archive_btree_maps.specs.declared.nodes.layout.NodeLayout.{NodeLayout}
use Rattle.archive_btree_maps.specs.declared.nodes.searching.node.EntryAt.{EntryAt}

-- there is a tree on a level and at a position
abbrev pub HasTreeOn : (bytes : List ℕ) (layout : NodeLayout) (level pos : ℕ) → Type 0
HasTreeOn bytes layout level pos = (t : Tree Place) × IsTreeAt bytes layout level pos t

-- there is a tree at a root, and the closure may be called with the position of each of its keys
abbrev pub CanSearch : {F : Type 0} (bytes : List ℕ) (layout : NodeLayout) (root : ℕ) (pre : F → ℕ → Type 0) (f : F) → Type 0
CanSearch bytes layout root pre f = (t : Tree Place) × IsTreeAt bytes layout 1 root t × All (λ e. pre f e.key) (items t)

-- the closure may be called with the position of each key of the map at a position
abbrev pub MaySearch : {F : Type 0} (most : ℕ) (k v : Shape) (bytes : List ℕ) (pos : ℕ) (pre : F → ℕ → Type 0) (f : F) → Type 0
MaySearch most k v bytes pos pre f = (t : Tree Place) → IsMapAt bytes most k v pos t → All (λ e. pre f e.key) (items t)

-- ---- searches by calls

module _ {F : Type 0} (is : Tree Place → Type 0) (post : F → ℕ → Ordering → Type 0) (compare : F) where
  -- what is found is an entry of the tree whose key a call says to be equal
  abbrev pub FindsAmong : (found : Option EntryAt) → Type 0
  FindsAmong found = (t : Tree Place) → is t → IsAmong post compare (items t) found

  -- the search that goes by what calls say ends at what is found
  abbrev pub SearchesTo : (found : Option EntryAt) → Type 0
  SearchesTo found = (t : Tree Place) → is t → DescendsTo (λ e r. post compare e.key r) t (option_map place_of found)

  -- where calls say what an order does, the descent by this order ends at what is found
  abbrev pub AnswersPlace : (found : Option EntryAt) → Type 0
  AnswersPlace found =
      (t : Tree Place) (order : Place → Ordering) → is t → Orders post compare order (items t) → option_map place_of found ≡ descend order t

  -- it does, and it compares as many entries as are counted
  abbrev pub AnswersCounted : (result : Option EntryAt × ℕ) → Type 0
  AnswersCounted result =
      (t : Tree Place) (order : Place → Ordering)
      → is t
      → Orders post compare order (items t)
      → (option_map place_of result.0 ≡ descend order t) × (result.1 ≡ min (met order t) (2 ^ 64 - 1))

-- ---- searches of the map at a position for a key that is equal to a query

module _ {Q : Type 0} (most : ℕ) (k v : Shape) (key_of : List ℕ → ℕ → Q → Type 0) (key_order : Q → Q → Ordering) (bytes : List ℕ) (pos : ℕ) (query : Q) where
  -- what is found is an entry with such a key
  abbrev pub FindsPlace : (found : Option EntryAt) → Type 0
  FindsPlace found = (t : Tree Place) → IsMapAt bytes most k v pos t → Finds (λ e. e) (IsEqualKey key_of key_order bytes query) (items t) (option_map place_of found)

  -- the search for the query ends at what is found
  abbrev pub LooksUpPlace : (found : Option EntryAt) → Type 0
  LooksUpPlace found =
      (t : Tree Place) → IsMapAt bytes most k v pos t → DescendsTo (QuerySays key_of key_order bytes query) t (option_map place_of found)

  -- in the order that the keys compare in, the descent ends at what is found, and compares as many entries as are counted
  abbrev pub AnswersKeyCounted : (result : Option EntryAt × ℕ) → Type 0
  AnswersKeyCounted result =
      (t : Tree Place) (order : Place → Ordering)
      → IsMapAt bytes most k v pos t
      → QueryOrders key_of key_order bytes query order (items t)
      → (option_map place_of result.0 ≡ descend order t) × (result.1 ≡ min (met order t) (2 ^ 64 - 1))
