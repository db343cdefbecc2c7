-- What the own bytes of a map determine of its search tree.
use Rattle.std.proofs.Common.{◌≡◌, ◌∙◌, ℕ, zero, suc, ◌+◌, ◌<◌, ◌≤◌, ◌==◌, IsTrue, ◌↔◌, List, [], ◌∷◌, length, refl, ap, sym, subst, arith, eqb-true, eq-eqb}
use Rattle.archive_shape_layout.specs.Bytes.{word_at}
use Rattle.archive_shape_layout.specs.Shape.{Shape}
use Rattle.archive_shape_layout.specs.Shape.Shape.{tree}
use Rattle.archive_shape_layout.specs.Content.{Names}
use Rattle.archive_btree_layout.specs.Reading.{Place, HasNode, HasBranches, HasChild, places}
use Rattle.archive_btree_layout.specs.Reading.HasNode.{has_leaf, has_inner}
use Rattle.archive_btree_layout.specs.Reading.HasBranches.{has_greater, has_lesser}
use Rattle.archive_btree_layout.specs.Reading.HasChild.{no_child, a_child}
use Rattle.archive_shape_layout.specs.Content.{keys_offset, values_offset}
use Rattle.archive_btree_layout.specs.Tree.{Tree, Branches, items, items_of}
use Rattle.archive_btree_layout.specs.Tree.Tree.{absent}
use Rattle.archive_forms_values.specs.Parts.{HasValue, PointsTo, both}
use Rattle.archive_btree_maps.specs.Maps.{IsMapAt, IsMapOf}
use Rattle.archive_btree_maps.specs.Maps.IsMapAt.{has_none, has_root}
use Rattle.archive_btree_maps.proofs.ReadTree.{map_is_read}

no_items : {A : Type 0} (xs : List A) → length xs ≡ 0 → xs ≡ []
no_items [] e = refl
no_items (x ∷ xs) e = absurd (omega arith)

module _ {bytes : List ℕ} {most : ℕ} {k v : Shape} {pos : ℕ} {t : Tree Place} where
  -- the length is the number of the items
  pub map_count : IsMapAt bytes most k v pos t → length (items t) ≡ word_at bytes (pos + 4)
  map_count (has_none a b) = ap (λ x. length (items x)) b ∙ sym a
  map_count (has_root a b c d) = d

  pub map_none : word_at bytes (pos + 4) ≡ 0 → IsMapAt bytes most k v pos t → t ≡ absent
  map_none e (has_none a b) = b
  map_none e (has_root a b c d) = absurd (a e)

  pub map_root : (root : ℕ) → (word_at bytes (pos + 4) ≡ 0 → ⊥) → PointsTo bytes pos root → IsMapAt bytes most k v pos t → HasNode bytes most k v 1 root t
  map_root root some points (has_none a b) = absurd (some a)
  map_root root some points (has_root {root = r} a b c d) =
      let same : r ≡ root = cc in
      subst (λ x. HasNode bytes most k v 1 x t) same c

  pub map_points : (word_at bytes (pos + 4) ≡ 0 → ⊥) → IsMapAt bytes most k v pos t → (to : ℕ) × PointsTo bytes pos to
  map_points some (has_none a b) = absurd (some a)
  map_points some (has_root {root = r} a b c d) = (r, b)

pub map_empty : (t : Tree Place) (n : ℕ) → n ≡ length (items t) → IsTrue (n == 0) ↔ (items t ≡ [])
map_empty t n e = (
  λ y. no_items (items t) (sym e ∙ eqb-true n 0 y),
  λ y. eq-eqb n 0 (e ∙ ap length y),
)

-- the tree of a map that has a value
pub tree_of_value :
    {k v : Shape} {knows others : Names → Type 0} {bytes : List ℕ} {most pos : ℕ}
    (h : HasValue (tree most k v) (both knows others) bytes pos)
    → IsMapOf k v knows others bytes most pos h.value
tree_of_value {k} {v} {knows} {others} {bytes} {most} {pos} h = map_is_read k v knows others bytes most pos h.value h.held

-- ---- nodes without room for entries have none

no_places : {most n : ℕ} (k : Shape) (key : ℕ) (v : Shape) (value : ℕ) → n ≤ most → most ≡ 0 → places n k key v value ≡ []
no_places {n = zero} k key v value few e = refl
no_places {n = suc n} k key v value few e = absurd (omega (arith, few, e))

module _ (bytes : List ℕ) (most : ℕ) (k v : Shape) (none : most ≡ 0) where
  mutual
    node_items_none : {level pos : ℕ} {t : Tree Place} → HasNode bytes most k v level pos t → items t ≡ []
    node_items_none (has_leaf {pos = pos} low fits kind word few is) = ap items is ∙ no_places k (pos + keys_offset k) v (pos + values_offset most k v) few none
    node_items_none (has_inner low fits kind bs is) = ap items is ∙ branches_items_none none bs

    branches_items_none : {n level link key value : ℕ} {bs : Branches Place} → n ≡ 0 → HasBranches bytes most k v n level link key value bs → items_of bs ≡ []
    branches_items_none e (has_greater n child is) = ap items_of is ∙ child_items_none child
    branches_items_none e (has_lesser n child rest is) = absurd (omega (arith, e, n))

    child_items_none : {level link : ℕ} {t : Tree Place} → HasChild bytes most k v level link t → items t ≡ []
    child_items_none (no_child word is) = ap items is
    child_items_none (a_child away leads node) = node_items_none node

-- a map with entries has nodes with room for some
pub some_entries : {bytes : List ℕ} {most : ℕ} {k v : Shape} {pos : ℕ} {t : Tree Place} → (word_at bytes (pos + 4) ≡ 0 → ⊥) → IsMapAt bytes most k v pos t → 0 < most
some_entries {most = most} some (has_none a b) = absurd (some a)
some_entries {bytes = bytes} {most = zero} {k = k} {v = v} some (has_root a b c d) = absurd (some (sym d ∙ ap length (node_items_none bytes 0 k v refl c)))
some_entries {most = suc most} some (has_root a b c d) = omega arith
