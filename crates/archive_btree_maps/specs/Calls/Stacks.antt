-- What the steps of a walk do to its stack.
use Rattle.std.specs.Prelude.{◌≡◌, ℕ, ◌-◌, Bool, not, List, [], ◌∷◌, ◌++◌, Option, IfSome, MatchOption, filter}
use Rattle.archive_btree_layout.specs.Tree.{Tree, items}
use Rattle.archive_btree_layout.specs.Reading.{Place}
use Rattle.archive_btree_maps.specs.Ranges.{Decides, Stays, before_key}
use Rattle.archive_btree_maps.specs.SearchingLayout.{IsTreeAt}
use Rattle.archive_btree_maps.specs.SearchingNodes.{place_of}
use Rattle.archive_btree_maps.specs.Stepping.{IsReached, AreReached}
use Rattle.archive_btree_maps.specs.Walking.{child_items, node_items, stack_items, IsStack}
use Rattle.archive_btree_maps.specs.declared.nodes.layout.NodeLayout.{NodeLayout}
use Rattle.archive_btree_maps.specs.declared.nodes.searching.node.EntryAt.{EntryAt}
use Rattle.archive_btree_maps.specs.declared.nodes.searching.walk.Stack.{Stack}

-- the first of the items that are left, if there is one, is passed
abbrev pub PassesFirst : (es : List Place) (result : Option EntryAt) (rest : List Place) → Type 0
PassesFirst es result rest = MatchOption result ((es ≡ []) × (rest ≡ [])) (λ e. es ≡ place_of e ∷ rest)

module _ (bytes : List ℕ) (layout : NodeLayout) where
  -- the bytes have all nodes on a stack
  abbrev pub Stands : (stack : Stack) → Type 0
  Stands stack = IsStack bytes layout stack.nodes stack.nexts stack.depth

  -- the items that a stack has left
  abbrev pub items_left : (stack : Stack) → List Place
  items_left stack = stack_items bytes layout stack.nodes stack.nexts stack.depth

  -- its nodes are nodes of the tree at a root
  abbrev pub AreReachedFrom : (root : ℕ) (stack : Stack) → Type 0
  AreReachedFrom root stack = AreReached bytes layout root stack.nodes stack.depth

  -- all items of the tree at a root are left
  abbrev pub HasAllLeft : (root : ℕ) (stack : Stack) → Type 0
  HasAllLeft root stack = (t : Tree Place) → IsTreeAt bytes layout 1 root t → items_left stack ≡ items t

  -- some first items are passed, and the others are left
  abbrev pub HasLastLeft : (root : ℕ) (stack : Stack) → Type 0
  HasLastLeft root stack = (t : Tree Place) → IsTreeAt bytes layout 1 root t → (before : List Place) × (items t ≡ before ++ items_left stack)

  -- where all items after one that fails a test fail it as well, those that fail are left
  abbrev pub HasFailingLeft : {F : Type 0} (root : ℕ) (post : F → ℕ → Bool → Type 0) (passes : F) (stack : Stack) → Type 0
  HasFailingLeft root post passes stack =
      (t : Tree Place) (test : Place → Bool)
      → IsTreeAt bytes layout 1 root t
      → Decides post passes test (items t)
      → Stays (λ e. not (test e)) (items t)
      → items_left stack ≡ filter (λ e. not (test e)) (items t)

  -- the nodes stay nodes of the tree that they are nodes of
  abbrev pub StayReached : (old new : Stack) → Type 0
  StayReached old new = (root : ℕ) → AreReachedFrom root old → AreReachedFrom root new

  -- they do where the child that is pushed is one of its nodes
  abbrev pub StayReachedWith : (child : Option ℕ) (old new : Stack) → Type 0
  StayReachedWith child old new =
      (root : ℕ) → AreReachedFrom root old → IfSome child (IsReached bytes layout root old.depth) → AreReachedFrom root new

  -- the items of a child, if there is one, are pushed before those that are left
  abbrev pub PushesItems : (child : Option ℕ) (old new : Stack) → Type 0
  PushesItems child old new = items_left new ≡ child_items bytes layout (node_items bytes layout (32 - old.depth)) child ++ items_left old

  -- the first item that is left is passed
  abbrev pub PassesItem : (old : Stack) (result : Option EntryAt) (new : Stack) → Type 0
  PassesItem old result new = PassesFirst (items_left old) result (items_left new)

  -- it is passed where its key does not lie at the end
  abbrev pub PassesItemBefore : (end : Option ℕ) (old : Stack) (result : Option EntryAt) (new : Stack) → Type 0
  PassesItemBefore end old result new = PassesFirst (before_key end (items_left old)) result (before_key end (items_left new))
