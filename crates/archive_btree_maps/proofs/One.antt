-- Bytes have at most one search tree at a position.
use Rattle.std.proofs.Common.{◌≡◌, ℕ, List, subst}
use Rattle.archive_shape_layout.specs.Shape.{Shape}
use Rattle.archive_btree_layout.specs.Reading.{Place, HasNode}
use Rattle.archive_btree_layout.specs.Tree.{Tree}
use Rattle.archive_btree_layout.proofs.Unique.{one_node}
use Rattle.archive_btree_maps.specs.Maps.{IsMapAt}
use Rattle.archive_btree_maps.specs.Maps.IsMapAt.{has_none, has_root}

module _ (bytes : List ℕ) (most : ℕ) (k v : Shape) where
  pub one_map : (pos : ℕ) (t u : Tree Place) → IsMapAt bytes most k v pos t → IsMapAt bytes most k v pos u → t ≡ u
  one_map pos t u (has_none a b) (has_none c d) = cc
  one_map pos t u (has_none a b) (has_root c d e f) = absurd (c a)
  one_map pos t u (has_root c d e f) (has_none a b) = absurd (c a)
  one_map pos t u (has_root {root = p} a b c d) (has_root {root = q} e f g h) =
      let same : q ≡ p = cc in
      one_node bytes most k v 1 p t u c (subst (λ x. HasNode bytes most k v 1 x u) same g)
