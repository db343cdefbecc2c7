-- The tree of a map in a canonical archive is packed, and no tree with the same number of items is less.
use Rattle.std.proofs.Common.{ℕ, suc, ◌+◌, List, [], ◌∷◌, refl, sym, subst, arith}
use Rattle.archive_shape_layout.specs.Shape.{Shape, size_of}
use Rattle.archive_shape_layout.specs.Shape.Shape.{tree}
use Rattle.archive_shape_layout.specs.Content.{Part, keys_offset, values_offset, links_offset}
use Rattle.archive_shape_layout.specs.Content.Part.{at, node}
use Rattle.archive_shape_canonical.specs.Settled.{HasItems}
use Rattle.archive_shape_canonical.specs.Everywhere.{Reaches, reaches_here, reaches_plain, reaches_first, IsAsWritten}
use Rattle.archive_shape_canonical.proofs.Choosing.{items_there}
use Rattle.archive_shape_canonical.proofs.Reaching.{reaches_on}
use Rattle.archive_shape_canonical.proofs.Everywhere.{written_everywhere_law}
use Rattle.archive_btree_layout.specs.Tree.{Tree, Branches}
use Rattle.archive_btree_layout.specs.Packed.{IsBounded, AreBounded}
use Rattle.archive_btree_layout.specs.Reading.{Place, HasNode, HasBranches, HasChild}
use Rattle.archive_btree_layout.specs.Reading.HasNode.{has_leaf, has_inner}
use Rattle.archive_btree_layout.specs.Reading.HasBranches.{has_greater, has_lesser}
use Rattle.archive_btree_layout.specs.Reading.HasChild.{no_child, a_child}
use Rattle.archive_btree_layout.proofs.Descending.{length-places}
use Rattle.archive_btree_layout.proofs.Least.{fewest_nodes, least_height}
use Rattle.archive_btree_spelling.proofs.Divided.{packed_divided}
use Rattle.archive_btree_spelling.specs.PackingLaws.{WrittenIsPacked, WrittenIsLeast}
use Rattle.archive_btree_spelling.proofs.Made.{map_content}
use Rattle.archive_btree_spelling.proofs.Reached.{entries_in, led_items, node_divided}

pub written_is_packed_law : WrittenIsPacked
written_is_packed_law fit names bytes most k v pos t some w h =
    let c = map_content names bytes most k v pos h.root h.some h.leads in
    let all : (q : Part) → Reaches names bytes q (at pos (tree most k v)) → IsAsWritten fit names bytes q =
    λ q r. written_everywhere_law fit names bytes w.start w.root w.shape w.value w.regions w.visits q w.archive (reaches_on names bytes w.reached r)
    in
    let s = (all (at pos (tree most k v)) (reaches_here refl)).plain_settled _ _ c in
    let has : HasItems s.values = items_there s.values s.settled in
    let items_some = led_items fit names bytes most k v 1 h.root t h.node s.hold has in
    packed_divided most t some items_some (node_divided fit names bytes most k v 1 h.root t h.node (λ q r. all q (reaches_plain c (reaches_first r))) items_some)

-- a tree that is read has at most `most` entries in each node
module _ (bytes : List ℕ) (most : ℕ) (k v : Shape) where
  mutual
    node_bounded : (level pos : ℕ) (t : Tree Place) → HasNode bytes most k v level pos t → IsBounded most t
    node_bounded level pos t (has_leaf {len = len} low room kind word few is) =
        let count = length-places len k (pos + keys_offset k) v (pos + values_offset most k v) in
        subst (IsBounded most) (sym is) (omega (arith, count, few))
    node_bounded level pos t (has_inner {bs = bs} low room kind d is) =
        let own = entries_in bytes most k v most (suc level) (pos + links_offset most k v) (pos + keys_offset k) (pos + values_offset most k v) bs d in
        subst (IsBounded most) (sym is) (omega (arith, own), branches_bounded most (suc level) (pos + links_offset most k v) (pos + keys_offset k) (pos + values_offset most k v) bs d)

    branches_bounded : (n level link key place : ℕ) (bs : Branches Place) → HasBranches bytes most k v n level link key place bs → AreBounded most bs
    branches_bounded n level link key place bs (has_greater {t = t} z c is) = subst (AreBounded most) (sym is) (child_bounded level link t c)
    branches_bounded n level link key place bs (has_lesser {m = m} {t = t} {cs = cs} z c r is) =
        subst (AreBounded most) (sym is) (child_bounded level link t c, branches_bounded m level (link + 4) (key + size_of k) (place + size_of v) cs r)

    child_bounded : (level link : ℕ) (t : Tree Place) → HasChild bytes most k v level link t → IsBounded most t
    child_bounded level link t (no_child a b) = subst (IsBounded most) (sym b) tt
    child_bounded level link t (a_child {pos = pos} a b n) = node_bounded level pos t n

pub written_is_least_law : WrittenIsLeast
written_is_least_law fit names bytes others most k v l w pos from t u some m h n same =
    let packed = written_is_packed_law fit names bytes most k v pos t some m h in
    let bounded = node_bounded others most l w 1 from u n in
    (fewest_nodes most t u some packed bounded same, least_height most t u some packed bounded same)
