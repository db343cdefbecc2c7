-- What a walk that holds no bytes has left, in the bytes that it is given.
use Rattle.std.specs.Prelude.{◌≡◌, ℕ, suc, ◌<◌, ◌≤◌, List, slice_index, Some}
use Rattle.archive_btree_layout.specs.Reading.{Place}
use Rattle.archive_btree_maps.specs.declared.nodes.layout.NodeLayout.{NodeLayout}
use Rattle.archive_btree_maps.specs.SearchingNodes.{entry_count, child_of}
use Rattle.archive_btree_maps.specs.Walking.{stack_items, IsStack}
use Rattle.archive_btree_maps.specs.Ranges.{before_key}
use Rattle.archive_btree_maps.specs.declared.nodes.searching.stepping.EntryWalk.{EntryWalk}

module _ (bytes : List ℕ) (l : NodeLayout) (root : ℕ) where
  -- a node of the tree at a root: it lies `depth` levels below the root, and at a position
  pub data IsReached : ℕ → ℕ → Type 0 where
    is_root : {depth pos : ℕ} → depth ≡ 0 → pos ≡ root → IsReached depth pos
    is_child :
        {depth pos above parent i : ℕ}
        → depth ≡ suc above
        → IsReached above parent
        → i ≤ entry_count bytes l parent
        → child_of bytes l parent i ≡ Some pos
        → IsReached depth pos

  -- the nodes on a stack are such nodes, one on each level
  abbrev pub AreReached : List ℕ → ℕ → Type 0
  AreReached nodes depth = (d : ℕ) → d < depth → IsReached d (slice_index nodes d)

  -- a walk over the tree at the root has these left
  pub record HasLeft (w : EntryWalk) (es : List Place) : Type 0 where
    pub layout : w.layout ≡ l
    pub stands : IsStack bytes l w.stack.nodes w.stack.nexts w.stack.depth
    pub reached : AreReached w.stack.nodes w.stack.depth
    pub left : before_key w.end (stack_items bytes l w.stack.nodes w.stack.nexts w.stack.depth) ≡ es
