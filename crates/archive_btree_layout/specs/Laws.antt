-- The laws of search trees, as statements.
use Rattle.std.specs.Prelude.{◌≡◌, ℕ, suc, ◌+◌, ◌*◌, ◌^◌, ◌<◌, ◌≤◌, List, length, Some, find, AllPairs, Contains, ◌↔◌}
use Rattle.std.specs.declared.cmp.Ordering.{Ordering}
use Rattle.std.specs.declared.cmp.Ordering.TheVariants.{Equal}
use Rattle.std.specs.Ordering.{is_eq}
use Rattle.archive_btree_layout.specs.Tree.{Tree, items, count_nodes, height}
use Rattle.archive_btree_layout.specs.Packed.{IsPacked, IsBounded}
use Rattle.archive_btree_layout.specs.Descent.{descend, met}
use Rattle.archive_btree_layout.specs.Descent as descent
use Rattle.archive_btree_layout.specs.Items.{AreAt, IsTreeRead}
use Rattle.archive_btree_layout.specs.Changing.{AreApart, DiffersInValues, HasTree, IsNodeOf, IsKept}
use Rattle.archive_shape_layout.specs.Shape.Shape.{tree}
use Rattle.archive_shape_layout.specs.Value.{Value}
use Rattle.archive_shape_layout.specs.Bytes.{word_at, target_from}
use Rattle.archive_shape_layout.specs.Content.{Names, members}
use Rattle.archive_shape_layout.specs.Content.Part.{at}
use Rattle.archive_shape_layout.specs.Holds.{Region, Visit, OpenShared, Holds}
use Rattle.archive_shape_layout.specs.Visited.{ClaimedAfter}
use Rattle.archive_shape_layout.specs.Shape.{Shape}
use Rattle.archive_btree_layout.specs.Reading.{Place, HasNode}

-- where the entries ascend, the descent ends at the one that is equal to the query, if there is one
abbrev pub DescentFinds : Type 0 → Type 0
DescentFinds A =
    (order : A → Ordering) (t : Tree A)
    → descent.Ascends order (items t)
    → descend order t ≡ find (λ e. is_eq (order e)) (items t)

-- on any tree it ends at an item that is equal to the query, or at none
abbrev pub DescentIsEqual : Type 0 → Type 0
DescentIsEqual A =
    (order : A → Ordering) (t : Tree A) (e : A)
    → descend order t ≡ Some e
    → (order e ≡ Equal) × Contains (items t) e

-- ---- packed trees

-- the items determine a packed tree
abbrev pub OnePacked : Type 0 → Type 0
OnePacked A = (most : ℕ) (t u : Tree A) → 0 < most → IsPacked most t → IsPacked most u → items t ≡ items u → t ≡ u

-- the levels above the last are the logarithm of the number of items to the base of a node's children
abbrev pub PackedHeight : Type 0 → Type 0
PackedHeight A =
    (most : ℕ) (t : Tree A) → 0 < most → (p : IsPacked most t)
    → (suc most ^ p.above ≤ length (items t)) × (length (items t) < suc most ^ suc p.above)

-- no tree with the same number of items has fewer nodes or less height
abbrev pub PackedIsLeast : Type 0 → Type 0
PackedIsLeast A =
    (most : ℕ) (t u : Tree A) → 0 < most → IsPacked most t → IsBounded most u → length (items t) ≡ length (items u)
    → (count_nodes t ≤ count_nodes u) × (height t ≤ height u)

-- ---- what a search costs

-- from a root a search compares at most 32 times the number of entries that a node has
abbrev pub DescentMeets : Type 0
DescentMeets =
    (order : Place → Ordering) (bytes : List ℕ) (most : ℕ) (k v : Shape) (pos : ℕ) (t : Tree Place)
    → HasNode bytes most k v 1 pos t
    → met order t ≤ 32 * most

-- ---- what the layout holds

-- where the layout has a map, its tree is read, and its items are the pairs of its value
abbrev pub TreeIsRead : Type 0
TreeIsRead =
    (names : Names) (bytes : List ℕ) (most : ℕ) (k v : Shape) (depth : ℕ) (inside : List OpenShared) (pos : ℕ) (value : Value)
    (regions : List Region) (before after : List Visit) (low : ℕ)
    → Holds names bytes depth inside (at pos (tree most k v)) value regions before after
    → ClaimedAfter names bytes before low (length bytes) regions
    → IsTreeRead names bytes most k v pos value

-- ---- where values are written over

-- other bytes, which differ from those of a map at most in its items' values, have the same tree at its root
abbrev pub TreeStays : Type 0
TreeStays =
    (names : Names) (bytes others : List ℕ) (most : ℕ) (k v : Shape) (depth : ℕ) (inside : List OpenShared) (pos : ℕ) (value : Value)
    (regions : List Region) (before after : List Visit) (low root : ℕ) (t : Tree Place)
    → Holds names bytes depth inside (at pos (tree most k v)) value regions before after
    → ClaimedAfter names bytes before low pos regions
    → pos + 8 ≤ length bytes
    → (word_at bytes (pos + 4) ≡ 0 → ⊥)
    → target_from pos (word_at bytes pos) ≡ Some root
    → HasNode bytes most k v 1 root t
    → DiffersInValues v (items t) bytes others
    → HasTree bytes others most k v pos root t

-- the tree has the same nodes in both lists of bytes
abbrev pub NodesStay : Type 0
NodesStay =
    (names : Names) (bytes others : List ℕ) (most : ℕ) (k v : Shape) (depth : ℕ) (inside : List OpenShared) (pos : ℕ) (value : Value)
    (regions : List Region) (before after : List Visit) (low root : ℕ) (t : Tree Place)
    → Holds names bytes depth inside (at pos (tree most k v)) value regions before after
    → ClaimedAfter names bytes before low pos regions
    → pos + 8 ≤ length bytes
    → (word_at bytes (pos + 4) ≡ 0 → ⊥)
    → target_from pos (word_at bytes pos) ≡ Some root
    → HasNode bytes most k v 1 root t
    → DiffersInValues v (items t) bytes others
    → (level node_pos : ℕ) (u : Tree Place) → IsNodeOf bytes most k v level node_pos u 1 root ↔ IsNodeOf others most k v level node_pos u 1 root

-- other bytes have the keys of the map's pairs, and each pair whose own value is not written over
abbrev pub PairsStay : Type 0
PairsStay =
    (names : Names) (bytes others : List ℕ) (most : ℕ) (k v : Shape) (depth : ℕ) (inside : List OpenShared) (pos : ℕ) (value : Value)
    (regions : List Region) (before after : List Visit) (low root : ℕ) (t : Tree Place)
    → Holds names bytes depth inside (at pos (tree most k v)) value regions before after
    → ClaimedAfter names bytes before low pos regions
    → pos + 8 ≤ length bytes
    → (word_at bytes (pos + 4) ≡ 0 → ⊥)
    → target_from pos (word_at bytes pos) ≡ Some root
    → HasNode bytes most k v 1 root t
    → DiffersInValues v (items t) bytes others
    → AreAt (IsKept names bytes others k v) (items t) (members value)

-- the own bytes of its items' values lie apart from one another, so that a write over one leaves the others
abbrev pub ValuesApart : Type 0
ValuesApart =
    (names : Names) (bytes : List ℕ) (most : ℕ) (k v : Shape) (depth : ℕ) (inside : List OpenShared) (pos : ℕ) (value : Value)
    (regions : List Region) (before after : List Visit) (low root : ℕ) (t : Tree Place)
    → Holds names bytes depth inside (at pos (tree most k v)) value regions before after
    → ClaimedAfter names bytes before low pos regions
    → pos + 8 ≤ length bytes
    → (word_at bytes (pos + 4) ≡ 0 → ⊥)
    → target_from pos (word_at bytes pos) ≡ Some root
    → HasNode bytes most k v 1 root t
    → AllPairs (AreApart v) (items t)
