-- Where the layout of nodes that the program computes is exact. Its numbers stop at the greatest that it has.
use Rattle.std.specs.Prelude.{ℕ, ◌-◌, ◌^◌, ◌<◌, List, length}
use Rattle.archive_shape_layout.specs.Shape.{Shape}
use Rattle.archive_shape_layout.specs.Content.{links_offset}
use Rattle.archive_btree_layout.specs.Reading.{Place, HasNode}
use Rattle.archive_btree_layout.specs.Tree.{Tree}
use Rattle.archive_btree_maps.specs.Layout.{IsLayout}
use Rattle.archive_btree_maps.specs.declared.nodes.layout.NodeLayout.{NodeLayout}

-- where the offset of the pointers is not too great
abbrev pub IsExact : (most : ℕ) (k v : Shape) (layout : NodeLayout) → Type 0
IsExact most k v layout = 0 < most → links_offset most k v < 2 ^ 64 - 1 → IsLayout most k v layout

-- where some bytes have a node
abbrev pub IsExactInBuffers : (most : ℕ) (k v : Shape) (layout : NodeLayout) → Type 0
IsExactInBuffers most k v layout =
    (bytes : List ℕ) (level pos : ℕ) (t : Tree Place) → 0 < most → length bytes < 2 ^ 64 → HasNode bytes most k v level pos t → IsLayout most k v layout
