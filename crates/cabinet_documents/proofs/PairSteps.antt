-- From a pair to its node, which is the second of two parts: what holds there, and that it lies in the pair.
use Rattle.std.proofs.Common.{◌≡◌, ℕ, ◌+◌, List, [], ◌∷◌, Some, refl, sym, ap, subst, ◌∙◌}
use Rattle.archive_shape_layout.specs.Bytes.{align_up}
use Rattle.archive_shape_layout.specs.Value.{Value, Values}
use Rattle.archive_shape_layout.specs.Value.Value.{group}
use Rattle.archive_shape_layout.specs.Value.Values.{no_values, more_values}
use Rattle.archive_shape_layout.specs.Content.{Part, content_of, made, members, shape_content, fields}
use Rattle.archive_shape_layout.specs.Content.Label.{whole}
use Rattle.archive_shape_layout.specs.Content.Content.{plain}
use Rattle.archive_shape_layout.specs.Holds.{Region, Visit, OpenShared, Holds, HoldAll}
use Rattle.archive_shape_layout.specs.Holds.HoldAll.{holds_more}
use Rattle.archive_shape_layout.specs.Path.{Stands, StandsIn, value_in}
use Rattle.archive_shape_layout.specs.Path.Stands.{stands_plain}
use Rattle.archive_shape_layout.specs.Path.StandsIn.{stands_first, stands_later}
use Rattle.archive_shape_layout.proofs.Unique.{by_plain}
use Rattle.cabinet_documents.specs.Node.{node_names}
use Rattle.cabinet_documents.specs.Denotes.{pair_value}
use Rattle.cabinet_documents.proofs.Places.{node_here, text_here, pair_here, part_of}
use Rattle.cabinet_documents.proofs.Steps.{no_parts}

module _ (bytes : List ℕ) where
  -- ---- the second of two parts

  pub record SecondPart (level : ℕ) (around : List OpenShared) (before : List Visit) (p q : Part) (vs : Values) (u : Value) : Type 0 where
    pub regions : List Region
    pub since : List Visit
    pub until : List Visit
    pub holds : Holds node_names bytes level around q u regions since until
    pub within : (r : Part) (w : Value) (path : List ℕ) → Stands node_names bytes r w level around since q u path → StandsIn node_names bytes r w level around before (p ∷ (q ∷ [])) vs 1 path

  pub second_part : {level : ℕ} {around : List OpenShared} {p q : Part} {vs : Values} {regions : List Region} {before after : List Visit} (u : Value)
      → HoldAll node_names bytes level around (p ∷ (q ∷ [])) vs regions before after → value_in 1 vs ≡ Some u → SecondPart level around before p q vs u
  second_part {level = level} {around = around} {q = q} u (holds_more {v = x} {between = since} h (holds_more {v = v} {vs = ws} {here = here} {between = until} k ks e r) f g) there =
      let second_is : value_in 1 (more_values x (more_values v ws)) ≡ Some u = ap (value_in 1) (sym (f ∙ ap (more_values x) e)) ∙ there in
      let value_is : v ≡ u = cc in
      record {
        regions = here;
        since = since;
        until = until;
        holds = subst (λ y. Holds node_names bytes level around q y here since until) value_is k;
        within = λ t w path s. stands_later h (stands_first (subst (λ y. Stands node_names bytes t w level around since q y path) (sym value_is) s) k ks e refl) f refl;
      }

  -- ---- the node of a pair

  -- it is behind the key of the pair, of whose position more is known
  pub record NodeOf (IsPair : ℕ → Type 0) (level : ℕ) (around : List OpenShared) (before : List Visit) (p : Part) (v u : Value) (path : List ℕ → List ℕ) : Type 0 where
    pub deeper : ℕ
    pub pair_pos : ℕ
    pub is_pair : IsPair pair_pos
    pub node_pos : ℕ
    pub behind_key : node_pos ≡ pair_pos + 8
    pub regions : List Region
    pub since : List Visit
    pub until : List Visit
    pub holds : Holds node_names bytes deeper around (part_of node_here node_pos) u regions since until
    pub stands : (r : Part) (w : Value) (inner : List ℕ) → Stands node_names bytes r w deeper around since (part_of node_here node_pos) u inner → Stands node_names bytes r w level around before p v (path inner)

  -- of a part in another, as one of the other
  pub node_within :
      {IsPair IsOther : ℕ → Type 0} {level deep : ℕ} {around : List OpenShared} {before since : List Visit} {p q : Part} {v w u : Value} {path way : List ℕ → List ℕ}
      → (n : NodeOf IsPair deep around since q w u path)
      → IsOther n.pair_pos
      → ((r : Part) (x : Value) (inner : List ℕ) → Stands node_names bytes r x deep around since q w (path inner) → Stands node_names bytes r x level around before p v (way inner))
      → NodeOf IsOther level around before p v u way
  node_within n is_other within = record {
    deeper = n.deeper;
    pair_pos = n.pair_pos;
    is_pair = is_other;
    node_pos = n.node_pos;
    behind_key = n.behind_key;
    regions = n.regions;
    since = n.since;
    until = n.until;
    holds = n.holds;
    stands = λ r x inner s. within r x inner (n.stands r x inner s);
  }

  pair_content : (pos : ℕ) → content_of node_names bytes (part_of pair_here pos) ≡ plain whole (part_of text_here (pos + 0) ∷ (part_of node_here (pos + 8) ∷ []))
  unfolding shape_content fields align_up
  pair_content pos = refl

  -- of a pair by itself
  pub pair_node : (pos : ℕ) (k : List ℕ) (u : Value) {level : ℕ} {around : List OpenShared} {v : Value} {regions : List Region} {before after : List Visit}
      → v ≡ pair_value k u → Holds node_names bytes level around (part_of pair_here pos) v regions before after → NodeOf (λ q. q ≡ pos) level around before (part_of pair_here pos) v u (λ inner. 1 ∷ inner)
  unfolding made
  pair_node pos k u {level = level} {v = v} is h =
      let d = by_plain node_names bytes (pair_content pos) h in
      let m = d.is_made in
      let of_group : group d.vs ≡ pair_value k u = cc in
      let s = second_part u d.all (ap (λ x. value_in 1 (members x)) of_group) in
      record {
        deeper = level;
        pair_pos = pos;
        is_pair = refl;
        node_pos = pos + 8;
        behind_key = refl;
        regions = s.regions;
        since = s.since;
        until = s.until;
        holds = s.holds;
        stands = λ r w inner x. stands_plain (pair_content pos) (s.within r w inner x) d.is_made refl;
      }

  -- a part with no parts has no pair
  pub no_pair : (i : ℕ) (u : Value) {p : Part} {level : ℕ} {v : Value} {vs : Values} {around : List OpenShared} {regions : List Region} {before after : List Visit}
      → content_of node_names bytes p ≡ plain whole [] → Holds node_names bytes level around p v regions before after → v ≡ group vs → value_in i vs ≡ Some u → ⊥
  unfolding made
  no_pair i u {v = v} {vs = vs} e h is there =
      let d = by_plain node_names bytes e h in
      let m : made whole no_values ≡ Some v = subst (λ x. made whole x ≡ Some v) (no_parts bytes d.all) d.is_made in
      let none : vs ≡ no_values = cc in
      let last : value_in i no_values ≡ Some u = ap (value_in i) (sym none) ∙ there in
      cc
