-- A tree that has an item has room for one in each node.
use Rattle.std.proofs.Common.{◌≡◌, ◌∙◌, ℕ, zero, suc, ◌<◌, ◌≤◌, List, [], refl, ap, sym, arith}
use Rattle.archive_shape_layout.specs.Shape.{Shape}
use Rattle.archive_btree_layout.specs.Reading.{Place, places, HasNode, HasBranches, HasChild}
use Rattle.archive_btree_layout.specs.Reading.HasNode.{has_leaf, has_inner}
use Rattle.archive_btree_layout.specs.Reading.HasBranches.{has_greater, has_lesser}
use Rattle.archive_btree_layout.specs.Reading.HasChild.{no_child, a_child}
use Rattle.archive_btree_layout.specs.Tree.{Tree, Branches, items, items_of}
use Rattle.archive_btree_maps.specs.Maps.{IsMapAt}
use Rattle.archive_btree_maps.specs.Maps.IsMapAt.{has_none, has_root}

none_placed : (n : ℕ) (k : Shape) (key : ℕ) (v : Shape) (value : ℕ) → n ≡ 0 → places n k key v value ≡ []
none_placed zero k key v value e = refl
none_placed (suc n) k key v value e = absurd (omega (arith, e))

module _ (bytes : List ℕ) (most : ℕ) (k v : Shape) (none : most ≡ 0) where
  mutual
    node_without : {level pos : ℕ} {t : Tree Place} → HasNode bytes most k v level pos t → items t ≡ []
    node_without (has_leaf {len = len} a b c d e f) = ap items f ∙ none_placed len k _ v _ (omega (arith, e, none))
    node_without (has_inner a b c d e) = ap items e ∙ branches_without d none

    branches_without : {n level link key value : ℕ} {bs : Branches Place} → HasBranches bytes most k v n level link key value bs → n ≡ 0 → items_of bs ≡ []
    branches_without (has_greater e c f) z = ap items_of f ∙ child_without c
    branches_without (has_lesser e c d f) z = absurd (omega (arith, e, z))

    child_without : {level link : ℕ} {t : Tree Place} → HasChild bytes most k v level link t → items t ≡ []
    child_without (no_child e f) = ap items f
    child_without (a_child e f g) = node_without g

  map_without : {pos : ℕ} {t : Tree Place} → IsMapAt bytes most k v pos t → items t ≡ []
  map_without (has_none e f) = ap items f
  map_without (has_root e f g h) = node_without g

-- so it has no width of 0
pub has_width : (bytes : List ℕ) (most : ℕ) (k v : Shape) (pos : ℕ) (t : Tree Place) → IsMapAt bytes most k v pos t → (items t ≡ [] → ⊥) → 0 < most
has_width bytes zero k v pos t map some = absurd (some (map_without bytes zero k v refl map))
has_width bytes (suc n) k v pos t map some = omega arith
