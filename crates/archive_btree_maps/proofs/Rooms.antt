-- Where the parts of a node lie that is in a buffer: no number of its layout is cut.
use Rattle.std.proofs.Common.{◌≡◌, ℕ, ◌+◌, ◌*◌, ◌^◌, ◌<◌, ◌≤◌, max, arith}
use Rattle.std.proofs.Math.Nat.{mul-le-mul_right}
use Rattle.archive_shape_layout.specs.Shape.{Shape, size_of, align_of}
use Rattle.archive_shape_layout.specs.Content.{keys_offset, values_offset, links_offset, node_size, link_node_size, link_node_align}
use Rattle.archive_shape_layout.proofs.Framed.{le_align_up, keys_fit, values_fit, links_fit}
use Rattle.archive_btree_maps.specs.Layout.{IsNodeLayout}
use Rattle.archive_btree_maps.specs.declared.nodes.layout.NodeLayout.{NodeLayout}

-- of a node with `words` words after its keys and values
pub record HasRoom (most : ℕ) (k v : Shape) (layout : NodeLayout) (words pos len : ℕ) : Type 0 where
  pub keys : layout.keys ≡ keys_offset k
  pub values : layout.values ≡ values_offset most k v
  pub links : layout.links ≡ links_offset most k v
  pub keys_end : pos + layout.keys + most * size_of k ≤ len
  pub values_end : pos + layout.values + most * size_of v ≤ len
  pub links_end : pos + layout.links + words * 4 ≤ len
  pub key_sizes : most * size_of k ≤ link_node_size words most k v
  pub value_sizes : most * size_of v ≤ link_node_size words most k v
  pub first_link : links_offset most k v + words * 4 ≤ link_node_size words most k v

pub room_of :
    (most : ℕ) (k v : Shape) (layout : NodeLayout) (words pos len : ℕ)
    → IsNodeLayout most k v layout
    → pos + link_node_size words most k v ≤ len
    → len < 2 ^ 63
    → HasRoom most k v layout words pos len
room_of most k v layout words pos len is fits small =
    let keys_in = keys_fit words most k v in
    let values_in = values_fit most k v in
    let links_in = links_fit words most k v in
    let keys : layout.keys ≡ keys_offset k = omega (arith, is.keys) in
    let values : layout.values ≡ values_offset most k v = omega (arith, is.values) in
    let links : layout.links ≡ links_offset most k v = omega (arith, is.links) in
    record {
      keys = keys;
      values = values;
      links = links;
      keys_end = omega arith;
      values_end = omega arith;
      links_end = omega arith;
      key_sizes = omega arith;
      value_sizes = omega arith;
      first_link = links_in;
    }

-- a node is aligned to words, and what it begins with is not empty
pub link_aligned : (k v : Shape) → 0 < link_node_align k v
unfolding link_node_align
link_aligned k v = omega arith

pub node_some : (most : ℕ) (k v : Shape) → 0 < node_size most k v
unfolding keys_offset node_size
node_some most k v =
    let first = le_align_up 1 (align_of k) in
    let keys = keys_fit 1 most k v in
    let all = le_align_up (values_offset most k v + most * size_of v) (max (align_of k) (align_of v)) in
    omega arith

-- fewer entries fit where the greatest possible number does
pub fewer_fit : (n most size start len : ℕ) → n ≤ most → start + most * size ≤ len → start + n * size ≤ len
fewer_fit n most size start len less fits = let bytes = mul-le-mul_right size less in omega (arith, bytes)

-- one fits among some
pub one_fits : (n most size room : ℕ) → 0 < n → n ≤ most → most * size ≤ room → size ≤ room
one_fits n most size room some less fits =
    let first : 1 * size ≤ most * size = mul-le-mul_right size (omega arith) in
    omega (arith, first)
