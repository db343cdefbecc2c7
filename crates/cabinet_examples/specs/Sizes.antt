-- The sizes of document nodes and of what maps are made of.
use Rattle.std.specs.Prelude.{◌≡◌}
use Rattle.archive_shape_layout.specs.Shape.{align_of, size_of}
use Rattle.archive_shape_layout.specs.Shape.Shape.{text, choice}
use Rattle.archive_shape_layout.specs.Content.{link_node_size}
use Rattle.cabinet_examples.specs.Node.{node_shape, pair, payloads}

-- of a node, of a hashed or kept map's item, and of an ordered map's leaf and inner node
pub record NodeSizes : Type 0 where
  pub node_size : size_of (choice payloads) ≡ 24
  pub node_align : align_of (choice payloads) ≡ 8
  pub item_size : size_of pair ≡ 32
  pub leaf_size : link_node_size 1 5 text node_shape ≡ 176
  pub inner_size : link_node_size 6 5 text node_shape ≡ 192
