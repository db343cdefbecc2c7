-- The items that a walk over a tree has left, by its stack.
use Rattle.std.specs.Prelude.{◌≡◌, ℕ, zero, suc, ◌+◌, ◌-◌, ◌<◌, ◌≤◌, List, [], ◌∷◌, ◌++◌, length, slice_index, Option, Some, None}
use Rattle.archive_btree_layout.specs.Tree.{Tree}
use Rattle.archive_btree_layout.specs.Reading.{Place}
use Rattle.archive_btree_maps.specs.declared.nodes.layout.NodeLayout.{NodeLayout}
use Rattle.archive_btree_maps.specs.SearchingLayout.{IsTreeAt}
use Rattle.archive_btree_maps.specs.SearchingNodes.{entry_count, entry_of, child_of}

module _ (bytes : List ℕ) (l : NodeLayout) where
  -- the items of a child, if there is one
  abbrev pub child_items : (ℕ → List Place) → Option ℕ → List Place
  child_items below None = []
  child_items below (Some pos) = below pos

  -- n entries of a node from entry i on, each with the items of the child after it
  abbrev pub items_from : (ℕ → List Place) → ℕ → ℕ → ℕ → List Place
  items_from below pos zero i = []
  items_from below pos (suc n) i = entry_of l pos i ∷ (child_items below (child_of bytes l pos (suc i)) ++ items_from below pos n (suc i))

  -- the items of the node at a position, which has `levels` levels
  abbrev pub node_items : ℕ → ℕ → List Place
  node_items zero pos = []
  node_items (suc levels) pos =
      child_items (node_items levels) (child_of bytes l pos 0) ++ items_from (node_items levels) pos (entry_count bytes l pos) 0

  -- what is left of a node on the stack, whose next entry is entry `next`; below it are `levels` levels
  abbrev pub frame_items : ℕ → ℕ → ℕ → List Place
  frame_items levels pos next = items_from (node_items levels) pos (entry_count bytes l pos - next) next

  -- what is left of the nodes on a stack, the deepest first; the node at index d lies on level d + 1 of 32
  abbrev pub stack_items : List ℕ → List ℕ → ℕ → List Place
  stack_items nodes nexts zero = []
  stack_items nodes nexts (suc d) = frame_items (31 - d) (slice_index nodes d) (slice_index nexts d) ++ stack_items nodes nexts d

  -- a node on a stack: the bytes have it, and its next entry is an entry of the node, or it has none left
  pub record IsFrame (d pos next : ℕ) : Type 0 where
    pub tree : Tree Place
    pub stands : IsTreeAt bytes l (d + 1) pos tree
    pub within : next ≤ entry_count bytes l pos

  -- a stack has room for 32 nodes, and every node on it lies in the bytes
  pub record IsStack (nodes nexts : List ℕ) (depth : ℕ) : Type 0 where
    pub room : length nodes ≡ 32
    pub space : length nexts ≡ 32
    pub within : depth ≤ 32
    pub frames : (d : ℕ) → d < depth → IsFrame d (slice_index nodes d) (slice_index nexts d)
