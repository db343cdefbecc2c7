-- Offsets and sizes that stop at the greatest usize are exact where the last of them lies below it.
use Rattle.std.proofs.Common.{ℕ, zero, suc, ◌+◌, ◌-◌, ◌*◌, ◌^◌, ◌<◌, ◌≤◌, List, length, arith}
use Rattle.archive_shape_layout.specs.Shape.{Shape, size_of}
use Rattle.archive_shape_layout.specs.Content.{links_offset}
use Rattle.archive_shape_layout.proofs.Framed.{keys_fit, values_fit, links_fit}
use Rattle.archive_btree_layout.specs.Tree.{Tree}
use Rattle.archive_btree_layout.specs.Reading.{Place, HasNode}
use Rattle.archive_btree_layout.specs.Reading.HasNode.{has_leaf, has_inner}
use Rattle.archive_btree_maps.specs.Layout.{IsNodeLayout, IsLayout}
use Rattle.archive_btree_maps.specs.declared.nodes.layout.NodeLayout.{NodeLayout}

le_times : (n size : ℕ) → 0 < n → size ≤ n * size
le_times zero size some = absurd (omega arith)
le_times (suc n) size some = omega arith

module _ (most : ℕ) (k v : Shape) where
  pub links_within : (bytes : List ℕ) (level pos : ℕ) (t : Tree Place) → HasNode bytes most k v level pos t → pos + links_offset most k v + 4 ≤ length bytes
  links_within bytes level pos t (has_leaf a b c d e f) = let fit = links_fit 1 most k v in omega arith
  links_within bytes level pos t (has_inner a b c d e) = let fit = links_fit (most + 1) most k v in omega arith

  pub layout_is : (l : NodeLayout) → 0 < most → links_offset most k v < 2 ^ 64 - 1 → IsNodeLayout most k v l → IsLayout most k v l
  layout_is l some below is =
      let keys_in = keys_fit 0 most k v in
      let values_in = values_fit most k v in
      let key = le_times most (size_of k) some in
      let value = le_times most (size_of v) some in
      record {
        entries = is.entries;
        keys = omega (arith, is.keys);
        key_size = omega (arith, is.key_size);
        values = omega (arith, is.values);
        value_size = omega (arith, is.value_size);
        links = omega (arith, is.links);
      }
