-- The search tree that is written for items, with its nodes and their entries.
use Rattle.std.specs.Prelude.{ℕ, zero, suc, List, [], ◌∷◌, map}
use Rattle.archive_btree_layout.specs.Tree.{Tree, Branches}
use Rattle.archive_btree_layout.specs.Tree.Tree.{absent, leaf, inner}
use Rattle.archive_btree_layout.specs.Tree.Branches.{greater, lesser}
use Rattle.archive_btree_spelling.specs.Parted.{parted}

-- the subtrees below the pointers of an inner node, with its own entries between them
abbrev pub branches : {C : Type 0} → List (Tree C) → List C → Branches C
branches [] es = greater absent
branches (t ∷ ts) [] = greater t
branches (t ∷ ts) (e ∷ es) = lesser t e (branches ts es)

abbrev pub node_of : {C : Type 0} → ℕ → List (Tree C) → List C → Tree C
node_of zero ts es = leaf es
node_of (suc kind) ts es = inner (branches ts es)

-- the tree of items that need at most `levels` levels
abbrev pub tree_of : {C : Type 0} → ℕ → ℕ → List C → Tree C
tree_of most zero xs = absent
tree_of most (suc levels) [] = absent
tree_of most (suc levels) (x ∷ xs) =
    let p = parted most (x ∷ xs) in node_of p.kind (map (λ c. tree_of most levels c) p.below) p.own
