-- The nodes of a map that are audited one after the other.
use Rattle.std.proofs.Common.{◌≡◌, ℕ, ◌+◌, ◌≤◌, max, Bor, List, ◌∷◌, slice_index, Err, refl, sym, subst, arith}
use Rattle.std.specs.Prelude.{All}
use Rattle.std.specs.BTreeMap.{BTreeMap}
use Rattle.std.specs.Ordering.{nat_cmp, ord_max}
use Rattle.std.proofs.lemmas.List.Elements.{All-head, All-tail}
use Rattle.archive_shape_layout.specs.Content.{Part}
use Rattle.archive_shape_layout.specs.Content.Part.{at}
use Rattle.archive_shape.specs.declared.references.refs.Ref.{Ref}
use Rattle.cabinet_documents.specs.Node.{node_shape}
use Rattle.cabinet_archived.specs.declared.node.ArchivedNode.{ArchivedNode}
use Rattle.cabinet_archives.specs.Sound.{HasHeight, AreHeights, AuditsTo}
use Rattle.cabinet_archives.specs.declared.opening.refusal.OpenRefusal.{OpenRefusal}
use Rattle.cabinet_archives.proofs.Auditing.{IsNodeOf, IsLeft, left_on, left_refused, leaf_height, refused_on}
use Rattle.cabinet_archives.proofs.Heights.{height_as, heights_as, refuses_as, max_is}

-- nodes of a map are left, and the highest of the others is so high, inside the containers around it
pub record NodesLeft (bytes : Bor (List ℕ)) (p : Part) (inner height : ℕ) (left : List (Ref ArchivedNode)) (heights : BTreeMap ℕ ℕ) : Type 0 where
  pub there : All (IsNodeOf bytes) left
  pub left_of : IsLeft bytes p height left
  pub low : inner + height ≤ 64
  pub kept : AreHeights bytes.now heights

module _ {bytes : Bor (List ℕ)} {p : Part} {inner height : ℕ} {left others : List (Ref ArchivedNode)} {heights : BTreeMap ℕ ℕ} {node : Ref ArchivedNode} (e : left ≡ node ∷ others) (m : NodesLeft bytes p inner height left heights) where
  all : All (IsNodeOf bytes) (node ∷ others)
  all = subst (All (IsNodeOf bytes)) e m.there

  pub first_node : IsNodeOf bytes node
  first_node = All-head (IsNodeOf bytes) node others all

  pub heights_first : AreHeights node.bytes.now heights
  heights_first = heights_as heights (sym first_node.0) m.kept

  -- after one with a height the others are left
  pub node_passed : (other greater : ℕ) (more : BTreeMap ℕ ℕ) → greater ≡ ord_max nat_cmp height other → inner + other ≤ 64 → HasHeight node.bytes.now (at node.pos node_shape) other → AreHeights node.bytes.now more
      → NodesLeft bytes p inner greater others more
  node_passed other greater more is fits high kept =
      let low = m.low in
      let same = max_is height other greater is in
      record {
        there = All-tail (IsNodeOf bytes) node others all;
        left_of = subst (λ n. IsLeft bytes p n others) (sym same) (left_on bytes p height e m.left_of other (height_as node_shape other first_node.0 refl high));
        low = omega (arith, same, low, fits);
        kept = heights_as more first_node.0 kept;
      }

  -- and after a leaf
  pub leaf_passed : slice_index node.bytes.now node.pos ≤ 3 → NodesLeft bytes p inner height others heights
  leaf_passed leaf =
      let same : max height 0 ≡ height = omega arith in
      record {
        there = All-tail (IsNodeOf bytes) node others all;
        left_of = subst (λ n. IsLeft bytes p n others) same (left_on bytes p height e m.left_of 0 (height_as node_shape 0 first_node.0 refl (leaf_height node.bytes.now node.pos leaf)));
        low = m.low;
        kept = m.kept;
      }

  -- what is refused of it is refused of the map
  pub node_refused : (depth : ℕ) (why : OpenRefusal) → inner ≡ depth + 1 → AuditsTo node.bytes.now inner (at node.pos node_shape) (Err why) → AuditsTo bytes.now depth p (Err why)
  node_refused depth why deeper found =
      refused_on why (left_refused bytes p height e m.left_of depth inner deeper m.low why) (refuses_as inner node_shape (Err why) first_node.0 refl found)
