-- Where the parts of a search tree's node lie.
use Rattle.std.specs.Prelude.{◌≡◌, ℕ, ◌+◌, max}
use Rattle.archive_shape_layout.specs.Shape.{Shape, size_of, align_of}
use Rattle.archive_shape_layout.specs.Content.{keys_offset, values_offset, node_size, links_offset, link_node_size, link_node_align}
use Rattle.archive_forms_values.specs.Claims.{as_usize}
use Rattle.archive_btree_maps.specs.declared.nodes.layout.NodeLayout.{NodeLayout}

-- the offsets and sizes of nodes with at most `most` entries of these shapes, as numbers that the program has
pub record IsNodeLayout (most : ℕ) (k v : Shape) (layout : NodeLayout) : Type 0 where
  pub entries : layout.entries ≡ most
  pub keys : layout.keys ≡ as_usize (keys_offset k)
  pub key_size : layout.key_size ≡ as_usize (size_of k)
  pub values : layout.values ≡ as_usize (values_offset most k v)
  pub value_size : layout.value_size ≡ as_usize (size_of v)
  pub size : layout.size ≡ as_usize (node_size most k v)
  pub align : layout.align ≡ max (align_of k) (align_of v)
  pub links : layout.links ≡ as_usize (links_offset most k v)
  pub leaf : layout.leaf ≡ as_usize (link_node_size 1 most k v)
  pub inner : layout.inner ≡ as_usize (link_node_size (most + 1) most k v)
  pub link_align : layout.link_align ≡ link_node_align k v

-- the offsets and sizes in a node, none of which is cut
pub record IsLayout (most : ℕ) (k v : Shape) (l : NodeLayout) : Type 0 where
  pub entries : l.entries ≡ most
  pub keys : l.keys ≡ keys_offset k
  pub key_size : l.key_size ≡ size_of k
  pub values : l.values ≡ values_offset most k v
  pub value_size : l.value_size ≡ size_of v
  pub links : l.links ≡ links_offset most k v
