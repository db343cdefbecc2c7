-- Search trees in bytes whose nodes have a layout.
use Rattle.std.specs.Prelude.{ℕ, List}
use Rattle.archive_shape_layout.specs.Shape.{Shape}
use Rattle.archive_btree_layout.specs.Tree.{Tree}
use Rattle.archive_btree_layout.specs.Reading.{Place, HasNode}
use Rattle.archive_btree_maps.specs.Layout.{IsLayout}
use Rattle.archive_btree_maps.specs.declared.nodes.layout.NodeLayout.{NodeLayout}

-- on a level and at a position the bytes have a tree, whose nodes have this layout
pub record IsTreeAt (bytes : List ℕ) (l : NodeLayout) (level pos : ℕ) (t : Tree Place) : Type 0 where
  pub most : ℕ
  pub key : Shape
  pub value : Shape
  pub layout : IsLayout most key value l
  pub node : HasNode bytes most key value level pos t
