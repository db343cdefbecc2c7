-- Bytes have one tree at a position.
use Rattle.std.proofs.Common.{◌≡◌, ◌∙◌, ℕ, suc, ◌+◌, List, refl, ap, sym, subst}
use Rattle.archive_shape_layout.specs.Shape.{Shape, size_of}
use Rattle.archive_shape_layout.specs.Content.{keys_offset, values_offset, links_offset}
use Rattle.archive_btree_layout.specs.Tree.{Tree, Branches}
use Rattle.archive_btree_layout.specs.Tree.Tree.{leaf, inner}
use Rattle.archive_btree_layout.specs.Tree.Branches.{greater}
use Rattle.archive_btree_layout.specs.Reading.{Place, places, HasNode, HasBranches, HasChild}
use Rattle.archive_btree_layout.specs.Reading.HasNode.{has_leaf, has_inner}
use Rattle.archive_btree_layout.specs.Reading.HasBranches.{has_greater, has_lesser}
use Rattle.archive_btree_layout.specs.Reading.HasChild.{no_child, a_child}

module _ (bytes : List ℕ) (most : ℕ) (k v : Shape) where
  mutual
    pub one_node : (level pos : ℕ) (t u : Tree Place) → HasNode bytes most k v level pos t → HasNode bytes most k v level pos u → t ≡ u
    one_node level pos t u (has_leaf a b c d e f) (has_leaf g h i j l m) =
        f ∙ ap (λ len. leaf (places len k (pos + keys_offset k) v (pos + values_offset most k v))) (sym d ∙ j) ∙ sym m
    one_node level pos t u (has_leaf a b c d e f) (has_inner g h i j l) = absurd cc
    one_node level pos t u (has_inner a b c d e) (has_leaf g h i j l m) = absurd cc
    one_node level pos t u (has_inner {bs = bs} a b c d e) (has_inner {bs = cs} g h i j l) =
        e ∙ ap inner (one_branches most (suc level) (pos + links_offset most k v) (pos + keys_offset k) (pos + values_offset most k v) bs cs d j) ∙ sym l

    one_branches : (n level link key value : ℕ) (bs cs : Branches Place) → HasBranches bytes most k v n level link key value bs → HasBranches bytes most k v n level link key value cs → bs ≡ cs
    one_branches n level link key value bs cs (has_greater {t = t} a b c) (has_greater {t = u} d e f) = c ∙ ap greater (one_child level link t u b e) ∙ sym f
    one_branches n level link key value bs cs (has_greater a b c) (has_lesser d e f g) = absurd cc
    one_branches n level link key value bs cs (has_lesser a b c d) (has_greater e f g) = absurd cc
    one_branches n level link key value bs cs (has_lesser {m = m} {t = t} {cs = ds} a b c d) (has_lesser {m = l} {t = u} {cs = es} e f g h) =
        let less : l ≡ m = cc in
        let there = subst (λ i. HasBranches bytes most k v i level (link + 4) (key + size_of k) (value + size_of v) es) less g in
        let first = one_child level link t u b f in
        let rest = one_branches m level (link + 4) (key + size_of k) (value + size_of v) ds es c there in
        rw (d, h, first, rest) refl

    one_child : (level link : ℕ) (t u : Tree Place) → HasChild bytes most k v level link t → HasChild bytes most k v level link u → t ≡ u
    one_child level link t u (no_child a b) (no_child c d) = b ∙ sym d
    one_child level link t u (no_child a b) (a_child c d e) = absurd (c a)
    one_child level link t u (a_child a b c) (no_child d e) = absurd (a d)
    one_child level link t u (a_child {pos = p} a b c) (a_child {pos = q} d e f) =
        let same : q ≡ p = cc in one_node level p t u c (subst (λ i. HasNode bytes most k v level i u) same f)
