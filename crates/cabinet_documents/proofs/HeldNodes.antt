-- What holds at a node's place has a value of that place, and no shared position lies inside itself there.
use Rattle.std.proofs.Common.{◌≡◌, ℕ, suc, ◌++◌, ◌==◌, cond, Bool, true, false, List, [], ◌∷◌, Some, None, refl, sym, ap, ap₂, subst, ◌∙◌}
use Rattle.archive_shape_layout.specs.Value.{Value, Values}
use Rattle.archive_shape_layout.specs.Value.Value.{counted}
use Rattle.archive_shape_layout.specs.Content.{Part, Label, Span, content_of, made, IsLegal}
use Rattle.archive_shape_layout.specs.Content.Part.{behind}
use Rattle.archive_shape_layout.specs.Content.Content.{plain, claimed, counting}
use Rattle.archive_shape_layout.specs.Shape.{Pointee}
use Rattle.archive_shape_layout.specs.Shape.Pointee.{sized, str}
use Rattle.archive_shape_layout.specs.Holds.{Region, region_of, Visit, OpenShared, open_at, visited, Holds, HoldAll}
use Rattle.archive_shape_layout.specs.Holds.Holds.{holds_plain, holds_claimed, holds_first, holds_later, holds_back}
use Rattle.archive_shape_layout.specs.Holds.HoldAll.{holds_none, holds_more}
use Rattle.cabinet_documents.specs.Node.{node_shape, node_names}
use Rattle.cabinet_documents.specs.Laws.{IsAcyclic, AreAcyclic}
use Rattle.cabinet_documents.proofs.Places.{Place, shared_here, whole_here, text_behind, node_behind, Spot, part_of, parts_at, Leads, leads_nowhere, leads_plain, leads_claimed, leads_counted, leads_whole, led}
use Rattle.cabinet_documents.proofs.Nodes.{NodeValue, TextValue, ValueAt, ValuesAt, none_at, more_at, follow}

module _ (bytes : List ℕ) where
  -- ---- shared texts and wholes alone count

  pub data Counts (k : Place) (cyclic : Bool) (q : Pointee) (len : ℕ) : Type 0 where
    counts_text : k ≡ shared_here → cyclic ≡ false → q ≡ str → Counts k cyclic q len
    counts_node : k ≡ whole_here → cyclic ≡ false → q ≡ sized node_shape → len ≡ 1 → Counts k cyclic q len

  pub counts : (k : Place) (pos : ℕ) {cyclic : Bool} {t len : ℕ} {q : Pointee} → content_of node_names bytes (part_of k pos) ≡ counting cyclic t q len → Counts k cyclic q len
  counts k pos {cyclic = cyclic} {t = t} {len = len} {q = q} e = by_case k (led bytes k pos) e
    where
      by_case : (k : Place) → Leads bytes k (content_of node_names bytes (part_of k pos)) → content_of node_names bytes (part_of k pos) ≡ counting cyclic t q len → Counts k cyclic q len
      by_case k (leads_nowhere f) g = absurd (cc)
      by_case k (leads_plain f fs) g = absurd (cc)
      by_case k (leads_claimed f fs b) g = absurd (cc)
      by_case shared_here (leads_counted f) g = counts_text refl (cc) (cc)
      by_case whole_here (leads_whole f) g = counts_node refl (cc) (cc) (cc)

  -- none is of a flavor that permits cycles
  pub is_acyclic : {k : Place} {cyclic : Bool} {q : Pointee} {len : ℕ} → Counts k cyclic q len → cyclic ≡ false
  is_acyclic (counts_text a b c) = b
  is_acyclic (counts_node a b c d) = b

  abbrev pub text_visit : ℕ → ℕ → Value → Visit
  text_visit t len w = record { pos = t; pointee = str; len = len; value = w }

  abbrev pub node_visit : ℕ → Value → Visit
  node_visit t w = record { pos = t; pointee = sized node_shape; len = 1; value = w }

  -- each text and each node that was visited has the value of one
  pub record ValuesSeen (visits : List Visit) : Type 0 where
    pub texts : (t len : ℕ) (w : Value) → visited visits t ≡ Some (text_visit t len w) → TextValue w
    pub nodes : (t : ℕ) (w : Value) → visited visits t ≡ Some (node_visit t w) → NodeValue bytes w

  pub none_seen : ValuesSeen []
  none_seen = record { texts = λ t len w e. absurd (cc); nodes = λ t w e. absurd (cc) }

  -- with one more
  seen_more : (v : Visit) (visits : List Visit)
      → ((t len : ℕ) (w : Value) → v ≡ text_visit t len w → TextValue w)
      → ((t : ℕ) (w : Value) → v ≡ node_visit t w → NodeValue bytes w)
      → ValuesSeen visits → ValuesSeen (v ∷ visits)
  seen_more v visits text node seen = record {
    texts = λ t len w. of_text (v.pos == t) t len w;
    nodes = λ t w. of_node (v.pos == t) t w;
  }
    where
      of_text : (b : Bool) (t len : ℕ) (w : Value) → cond b (Some v) (visited visits t) ≡ Some (text_visit t len w) → TextValue w
      of_text true t len w e = text t len w (cc)
      of_text false t len w e = seen.texts t len w e

      of_node : (b : Bool) (t : ℕ) (w : Value) → cond b (Some v) (visited visits t) ≡ Some (node_visit t w) → NodeValue bytes w
      of_node true t w e = node t w (cc)
      of_node false t w e = seen.nodes t w e

  seen_text : (t len : ℕ) (w : Value) (visits : List Visit) → TextValue w → ValuesSeen visits → ValuesSeen (text_visit t len w ∷ visits)
  seen_text t len w visits h seen =
      seen_more (text_visit t len w) visits (λ u m x e. subst TextValue (ap (λ (y : Visit). y.value) e) h)
      (λ u x e. absurd (let types = ap (λ (y : Visit). y.pointee) e in cc)) seen

  seen_node : (t : ℕ) (w : Value) (visits : List Visit) → NodeValue bytes w → ValuesSeen visits → ValuesSeen (node_visit t w ∷ visits)
  seen_node t w visits h seen =
      seen_more (node_visit t w) visits (λ u m x e. absurd (let types = ap (λ (y : Visit). y.pointee) e in cc))
      (λ u x e. subst (NodeValue bytes) (ap (λ (y : Visit). y.value) e) h) seen

  pub record Held {level : ℕ} {inside : List OpenShared} {p : Part} {v : Value} {regions : List Region} {before after : List Visit} (k : Place) (h : Holds node_names bytes level inside p v regions before after) : Type 0 where
    pub value : ValueAt bytes k v
    pub acyclic : IsAcyclic h
    pub seen : ValuesSeen after

  pub record AllHeld {level : ℕ} {inside : List OpenShared} {ps : List Part} {vs : Values} {regions : List Region} {before after : List Visit} (qs : List Spot) (hs : HoldAll node_names bytes level inside ps vs regions before after) : Type 0 where
    pub values : ValuesAt bytes qs vs
    pub acyclic : AreAcyclic hs
    pub seen : ValuesSeen after

  module _
      {level : ℕ} {inside : List OpenShared} {p : Part} {v : Value} {regions : List Region} {before after : List Visit} {l : Label} {ps : List Part} {vs : Values}
    where
      plain_held : (e : content_of node_names bytes p ≡ plain l ps) (legal : IsLegal l) (all : HoldAll node_names bytes level inside ps vs regions before after) (m : made l vs ≡ Some v)
          (on : (qs : List Spot) → ps ≡ parts_at qs → AllHeld qs all) (k : Place) (pos : ℕ)
          → Leads bytes k (content_of node_names bytes (part_of k pos)) → content_of node_names bytes (part_of k pos) ≡ plain l ps → p ≡ part_of k pos → Held k (holds_plain e legal all m)
      plain_held e legal all m on k pos (leads_nowhere f) g is = absurd (cc)
      plain_held e legal all m on k pos (leads_plain {l = l'} {qs = qs} f fs) g is =
          let there : ps ≡ parts_at qs = cc in
          let label : l' ≡ l = cc in
          let r = on qs there in
          record { value = follow bytes fs (subst IsLegal (sym label) legal) r.values (subst (λ x. made x vs ≡ Some v) (sym label) m); acyclic = r.acyclic; seen = r.seen }
      plain_held e legal all m on k pos (leads_claimed f fs b) g is = absurd (cc)
      plain_held e legal all m on k pos (leads_counted f) g is = absurd (cc)
      plain_held e legal all m on k pos (leads_whole f) g is = absurd (cc)

      claimed_held : {s : Span} {within : List Region} (e : content_of node_names bytes p ≡ claimed s l ps) (legal : IsLegal l) (all : HoldAll node_names bytes (suc level) inside ps vs within before after) (m : made l vs ≡ Some v)
          (x : regions ≡ within ++ region_of s level ∷ [])
          (on : (qs : List Spot) → ps ≡ parts_at qs → AllHeld qs all) (k : Place) (pos : ℕ)
          → Leads bytes k (content_of node_names bytes (part_of k pos)) → content_of node_names bytes (part_of k pos) ≡ claimed s l ps → p ≡ part_of k pos → Held k (holds_claimed e legal all m x)
      claimed_held e legal all m x on k pos (leads_nowhere f) g is = absurd (cc)
      claimed_held e legal all m x on k pos (leads_plain f fs) g is = absurd (cc)
      claimed_held e legal all m x on k pos (leads_counted f) g is = absurd (cc)
      claimed_held e legal all m x on k pos (leads_whole f) g is = absurd (cc)
      claimed_held e legal all m x on k pos (leads_claimed {l = l'} {qs = qs} f fs b) g is =
          let there : ps ≡ parts_at qs = cc in
          let label : l' ≡ l = cc in
          let r = on qs there in
          record { value = follow bytes fs (subst IsLegal (sym label) legal) r.values (subst (λ y. made y vs ≡ Some v) (sym label) m); acyclic = r.acyclic; seen = r.seen }

  shared_is : {k : Place} {v w : Value} (t : ℕ) → k ≡ shared_here → v ≡ counted t w → TextValue w → ValueAt bytes k v
  shared_is {v = v} t here is h = subst (λ x. ValueAt bytes x v) (sym here) (record { t = t; s = h.s; is = is ∙ ap (counted t) h.is; utf8 = h.utf8 })

  whole_is : {k : Place} {v w : Value} (t : ℕ) → k ≡ whole_here → v ≡ counted t w → NodeValue bytes w → ValueAt bytes k v
  whole_is {v = v} {w = w} t here is h = subst (λ x. ValueAt bytes x v) (sym here) (record { t = t; w = w; is = is; node = h })

  -- a counted pointer, by what lies behind it
  module _
      {level : ℕ} {inside : List OpenShared} {p : Part} {v w : Value} {regions : List Region} {before after : List Visit} {cyclic : Bool} {t : ℕ} {q : Pointee} {len : ℕ}
      (e : content_of node_names bytes p ≡ counting cyclic t q len) (a : open_at inside t ≡ None)
    where
      first_held : {between : List Visit} (b : visited before t ≡ None)
          (h : Holds node_names bytes level (record { pos = t; pointee = q; len = len } ∷ inside) (behind t q len) w regions before between)
          (d : v ≡ counted t w) (g : after ≡ record { pos = t; pointee = q; len = len; value = w } ∷ between)
          (k : Place) → Counts k cyclic q len → ((j : Place) → behind t q len ≡ part_of j t → Held j h) → Held k (holds_first e a b h d g)
      first_held {between = between} b h d g k (counts_text here acyclic type) on =
          let inner = on (text_behind len) (ap (λ x. behind t x len) type) in
          record {
            value = shared_is t here d inner.value;
            acyclic = inner.acyclic;
            seen = subst ValuesSeen (sym (g ∙ ap (λ x. record { pos = t; pointee = x; len = len; value = w } ∷ between) type)) (seen_text t len w between inner.value inner.seen);
          }
      first_held {between = between} b h d g k (counts_node here acyclic type one) on =
          let inner = on node_behind (ap₂ (λ x n. behind t x n) type one) in
          record {
            value = whole_is t here d inner.value;
            acyclic = inner.acyclic;
            seen = subst ValuesSeen (sym (g ∙ ap₂ (λ x n. record { pos = t; pointee = x; len = n; value = w } ∷ between) type one)) (seen_node t w between inner.value inner.seen);
          }

      later_held : (b : visited before t ≡ Some (record { pos = t; pointee = q; len = len; value = w }))
          (d : v ≡ counted t w) (g : regions ≡ []) (z : after ≡ before)
          (k : Place) → Counts k cyclic q len → ValuesSeen before → Held k (holds_later {level = level} e a b d g z)
      later_held b d g z k (counts_text here acyclic type) seen =
          let there = seen.texts t len w (b ∙ ap (λ x. Some (record { pos = t; pointee = x; len = len; value = w })) type) in
          record { value = shared_is t here d there; acyclic = tt; seen = subst ValuesSeen (sym z) seen }
      later_held b d g z k (counts_node here acyclic type one) seen =
          let there = seen.nodes t w (b ∙ ap₂ (λ x n. Some (record { pos = t; pointee = x; len = n; value = w })) type one) in
          record { value = whole_is t here d there; acyclic = tt; seen = subst ValuesSeen (sym z) seen }

  mutual
    -- at a place, where each text and each node visited before has a value
    pub held : {level : ℕ} {inside : List OpenShared} {p : Part} {v : Value} {regions : List Region} {before after : List Visit}
        (h : Holds node_names bytes level inside p v regions before after) (k : Place) (pos : ℕ) → p ≡ part_of k pos → ValuesSeen before → Held k h
    held (holds_plain e legal all m) k pos is seen =
        plain_held e legal all m (λ qs f. all_held all qs f seen) k pos (led bytes k pos) (ap (content_of node_names bytes) (sym is) ∙ e) is
    held (holds_claimed e legal all m x) k pos is seen =
        claimed_held e legal all m x (λ qs f. all_held all qs f seen) k pos (led bytes k pos) (ap (content_of node_names bytes) (sym is) ∙ e) is
    held (holds_first {t = t} e a b h d g) k pos is seen =
        first_held e a b h d g k (counts k pos (ap (content_of node_names bytes) (sym is) ∙ e)) (λ j f. held h j t f seen)
    held (holds_later e a b d g z) k pos is seen = later_held e a b d g z k (counts k pos (ap (content_of node_names bytes) (sym is) ∙ e)) seen
    held (holds_back e a d g h) k pos is seen = absurd (let c = is_acyclic (counts k pos (ap (content_of node_names bytes) (sym is) ∙ e)) in cc)

    all_held : {level : ℕ} {inside : List OpenShared} {ps : List Part} {vs : Values} {regions : List Region} {before after : List Visit}
        (hs : HoldAll node_names bytes level inside ps vs regions before after) (qs : List Spot) → ps ≡ parts_at qs → ValuesSeen before → AllHeld qs hs
    all_held (holds_none e f g) [] is seen = record { values = none_at e; acyclic = tt; seen = subst ValuesSeen (sym g) seen }
    all_held (holds_none e f g) (q ∷ qs) is seen = absurd (cc)
    all_held (holds_more h hs e r) [] is seen = absurd (cc)
    all_held (holds_more h hs e r) (q ∷ qs) is seen =
        let first = held h q.place q.pos (cc) seen in
        let others = all_held hs qs (cc) first.seen in
        record { values = more_at e first.value others.values; acyclic = (first.acyclic, others.acyclic); seen = others.seen }
