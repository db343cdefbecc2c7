-- Two lists of bytes that have the same nodes.
use Rattle.std.proofs.Common.{◌≡◌, ◌∙◌, ℕ, suc, ◌+◌, ◌*◌, ◌≤◌, ◌↔◌, List, Some, ap, sym, subst}
use Rattle.std.specs.Prelude.{slice_index}
use Rattle.archive_shape_layout.specs.Bytes.{word_at, target_from}
use Rattle.archive_shape_layout.specs.Shape.{Shape}
use Rattle.archive_shape_layout.specs.Content.{links_offset}
use Rattle.archive_btree_layout.specs.Tree.{Tree}
use Rattle.archive_btree_layout.specs.Reading.{Place, HasNode}
use Rattle.archive_btree_layout.specs.Changing.{IsNodeOf}
use Rattle.archive_btree_layout.specs.Changing.IsNodeOf.{is_top, is_below}
use Rattle.archive_btree_layout.proofs.Unique.{one_node}

-- where a pointer leads
abbrev pub Leads : List ℕ → ℕ → ℕ → Type 0
Leads bytes link child = (word_at bytes link ≡ 1 → ⊥) × (target_from link (word_at bytes link) ≡ Some child)

pub leads_same : (xs ys : List ℕ) (link child : ℕ) → word_at ys link ≡ word_at xs link → Leads xs link child → Leads ys link child
leads_same xs ys link child e leads = (λ one. leads.0 (sym e ∙ one), ap (target_from link) e ∙ leads.1)

-- both have the node at a level and a position, with the same pointers, and so on below it
pub data SameNodes (xs ys : List ℕ) (most : ℕ) (k v : Shape) : ℕ → ℕ → Type 0 where
  same_leaf :
      {level pos : ℕ} {t : Tree Place}
      → HasNode xs most k v level pos t
      → HasNode ys most k v level pos t
      → slice_index xs pos ≡ 0
      → slice_index ys pos ≡ 0
      → SameNodes xs ys most k v level pos
  same_inner :
      {level pos : ℕ} {t : Tree Place}
      → HasNode xs most k v level pos t
      → HasNode ys most k v level pos t
      → slice_index xs pos ≡ 1
      → slice_index ys pos ≡ 1
      → ((i : ℕ) → i ≤ most → word_at ys (pos + links_offset most k v + i * 4) ≡ word_at xs (pos + links_offset most k v + i * 4))
      → ((i child : ℕ) → i ≤ most → Leads xs (pos + links_offset most k v + i * 4) child → SameNodes xs ys most k v (suc level) child)
      → SameNodes xs ys most k v level pos

module _ (most : ℕ) (k v : Shape) where
  turned : (xs ys : List ℕ) (level pos : ℕ) → SameNodes xs ys most k v level pos → SameNodes ys xs most k v level pos
  turned xs ys level pos (same_leaf a b c d) = same_leaf b a d c
  turned xs ys level pos (same_inner a b c d words below) =
      same_inner b a d c (λ i le. sym (words i le))
      (λ i child le leads. turned xs ys (suc level) child (below i child le (leads_same ys xs (pos + links_offset most k v + i * 4) child (sym (words i le)) leads)))

  there : (xs ys : List ℕ) (level pos : ℕ) (t u : Tree Place) → HasNode xs most k v level pos t → HasNode ys most k v level pos t → HasNode xs most k v level pos u → HasNode ys most k v level pos u
  there xs ys level pos t u a b c = subst (HasNode ys most k v level pos) (one_node xs most k v level pos t u a c) b

  top_there : (xs ys : List ℕ) (level pos : ℕ) (u : Tree Place) → SameNodes xs ys most k v level pos → HasNode xs most k v level pos u → HasNode ys most k v level pos u
  top_there xs ys level pos u (same_leaf {t = t} a b c d) h = there xs ys level pos t u a b h
  top_there xs ys level pos u (same_inner {t = t} a b c d words below) h = there xs ys level pos t u a b h

  forth : (xs ys : List ℕ) (node_level node_pos : ℕ) (u : Tree Place) (level pos : ℕ) → SameNodes xs ys most k v level pos → IsNodeOf xs most k v node_level node_pos u level pos → IsNodeOf ys most k v node_level node_pos u level pos
  forth xs ys node_level node_pos u level pos same (is_top e f h) =
      let at_level = subst (λ l. SameNodes xs ys most k v l pos) e same in
      is_top e f (top_there xs ys node_level node_pos u (subst (SameNodes xs ys most k v node_level) f at_level) h)
  forth xs ys node_level node_pos u level pos (same_leaf a b c d) (is_below e f g h rest) = absurd cc
  forth xs ys node_level node_pos u level pos (same_inner a b c d words below) (is_below {i = i} {child = child} e f g h rest) =
      let leads = leads_same xs ys (pos + links_offset most k v + i * 4) child (words i f) (g, h) in
      is_below d f leads.0 leads.1 (forth xs ys node_level node_pos u (suc level) child (below i child f (g, h)) rest)

  pub nodes_same : (xs ys : List ℕ) (level pos : ℕ) → SameNodes xs ys most k v level pos → (node_level node_pos : ℕ) (u : Tree Place)
      → IsNodeOf xs most k v node_level node_pos u level pos ↔ IsNodeOf ys most k v node_level node_pos u level pos
  nodes_same xs ys level pos same node_level node_pos u =
      (forth xs ys node_level node_pos u level pos same, forth ys xs node_level node_pos u level pos (turned xs ys level pos same))
