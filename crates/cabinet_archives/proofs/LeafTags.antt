-- Whether the nodes of a map's items are leaves, by the tags at their positions.
use Rattle.std.proofs.Common.{◌≡◌, ◌∙◌, ℕ, ◌≤◌, ◌↔◌, IsTrue, Bool, true, false, ◌&&◌, nat_le, List, [], ◌∷◌, ◌++◌, inl, inr, map, slice_index, refl, sym, ap, ap₂, le-leb, leb-true}
use Rattle.std.specs.List.{flat_map}
use Rattle.std.proofs.lemmas.Bool.Decides.{leb_tells}
use Rattle.archive_shape_layout.specs.Shape.Shape.{text}
use Rattle.archive_shape_layout.specs.Value.{Value, Values}
use Rattle.archive_shape_layout.specs.Value.Value.{group}
use Rattle.archive_shape_layout.specs.Value.Values.{no_values, more_values}
use Rattle.archive_btree_layout.specs.Reading.{Place}
use Rattle.archive_btree_layout.proofs.Contents.{both}
use Rattle.cabinet_documents.specs.Audit.{faults}
use Rattle.cabinet_documents.specs.Denotes.{tagged_value}
use Rattle.cabinet_documents.specs.Node.{node_names, node_shape}
use Rattle.cabinet_documents.specs.Walk.{Stop, Walks}
use Rattle.cabinet_documents.proofs.NodeWalks.{NodeWalk, leaf_walks, option_walks, list_walks, ordered_walks, hashed_walks, kept_walks, whole_walks, node_walk}
use Rattle.cabinet_documents.proofs.Places.{node_here, part_of}
use Rattle.cabinet_documents.proofs.TreeWalks.{ItemsWalk, no_items, more_items}
use Rattle.cabinet_archives.specs.Ordered.{leads_to_leaf, lead_to_leaves}
use Rattle.cabinet_archives.proofs.Walked.{leaf_faults}

-- the tags of leaves
abbrev pub are_low : List ℕ → Bool
are_low [] = true
are_low (tag ∷ tags) = nat_le tag 3 && are_low tags

-- what tells a leaf by its tag is the test
pub leaf_told : (b : Bool) (tag : ℕ) → (IsTrue b ↔ (tag ≤ 3)) → b ≡ nat_le tag 3
leaf_told b tag is = by b refl
  where
    by : (t : Bool) → b ≡ t → b ≡ nat_le tag 3
    by true e =
        let low : tag ≤ 3 = is.0 e in
        e ∙ sym (le-leb tag 3 low)
    by false e =
        elim (leb_tells tag 3) [
          | inl low ↦ let told : b ≡ true = is.1 low.1 in told ∙ sym low.0
          | inr high ↦ e ∙ sym high.0
        ]

abbrev pub tags_at : List ℕ → List Place → List ℕ
tags_at bytes ps = map (λ (p : Place). slice_index bytes p.value) ps

module _ (bytes : List ℕ) where
  -- the tag of a node's value is the byte at its position
  abbrev SaysLeaf : ℕ → Value → Type 0
  SaysLeaf pos v = (k : Value) → leads_to_leaf (group (more_values k (more_values v no_values))) ≡ nat_le (slice_index bytes pos) 3

  tagged_leaf : (pos tag : ℕ) (v w : Value) → slice_index bytes pos ≡ tag → v ≡ tagged_value tag w → SaysLeaf pos v
  tagged_leaf pos tag v w e is = λ k. ap (λ x. leads_to_leaf (group (more_values k (more_values x no_values)))) is ∙ ap (λ n. nat_le n 3) (sym e)

  walked_leaf : {depth pos : ℕ} {v : Value} {walk : List Stop} → Walks node_names bytes depth (part_of node_here pos) v walk → SaysLeaf pos v
  walked_leaf {depth = depth} {pos = pos} {v = v} {walk = walk} h = by (node_walk bytes pos h)
    where
      by : NodeWalk bytes depth pos v walk → SaysLeaf pos v
      by (leaf_walks tag {w = w} e less is none) = tagged_leaf pos tag v w e is
      by (option_walks {w = w} e is run f) = tagged_leaf pos 4 v w e is
      by (list_walks {w = w} e is run f) = tagged_leaf pos 5 v w e is
      by (ordered_walks {w = w} e is run f) = tagged_leaf pos 6 v w e is
      by (hashed_walks {w = w} e is run f) = tagged_leaf pos 7 v w e is
      by (kept_walks {w = w} e is run f) = tagged_leaf pos 8 v w e is
      by (whole_walks {w = w} e is run f) = tagged_leaf pos 9 v w e is

  pub walked_leaves : {depth : ℕ} {ps : List Place} {vs : Values} {runs : List (List Stop)} → ItemsWalk node_names bytes text node_shape depth ps vs runs → lead_to_leaves vs ≡ are_low (tags_at bytes ps)
  walked_leaves (no_items e f g) = ap lead_to_leaves f ∙ sym (ap (λ qs. are_low (tags_at bytes qs)) e)
  walked_leaves (more_items {x = x} e f g k n rest) =
      ap lead_to_leaves f ∙ ap₂ (λ b c. b && c) (walked_leaf n x) (walked_leaves rest) ∙ sym (ap (λ qs. are_low (tags_at bytes qs)) e)

  -- leaves have no faults
  pub quiet_leaves : {depth : ℕ} {ps : List Place} {vs : Values} {runs : List (List Stop)} → ItemsWalk node_names bytes text node_shape depth ps vs runs → lead_to_leaves vs ≡ true → flat_map (faults bytes) runs ≡ []
  quiet_leaves (no_items e f g) leaves = ap (flat_map (faults bytes)) g
  quiet_leaves (more_items {p = p} {x = x} {vs = vs} e f g k n rest) leaves =
      let all = both (nat_le (slice_index bytes p.value) 3) (lead_to_leaves vs) (ap (λ b. b && lead_to_leaves vs) (sym (walked_leaf n x)) ∙ sym (ap lead_to_leaves f) ∙ leaves) in
      ap (flat_map (faults bytes)) g ∙ ap₂ (λ here later. here ++ later) (leaf_faults bytes n (leb-true (slice_index bytes p.value) 3 all.0)) (quiet_leaves rest all.1)
