-- The answer where a leaf is put in a node of a known kind, and the position of a text's bytes.
use Rattle.std.proofs.Common.{◌≡◌, ℕ, ℤ, ◌+◌, ◌-◌, ◌<◌, ◌==◌, Bool, Bor, true, if◌then◌else◌, List, length, take, drop, slice_index, Some, refl, sym, ap, subst, ◌∙◌, arith}
use Rattle.archive_shape_layout.specs.Bytes.{word_at, target_from}
use Rattle.archive_shape_layout.specs.Shape.{Shape}
use Rattle.archive_shape_layout.specs.Shape.Shape.{text as text_shape}
use Rattle.archive_shape_layout.specs.Value.{Value}
use Rattle.archive_shape_layout.specs.Content.{Names, IsInline}
use Rattle.archive_shape.specs.Bytes.{overwrite}
use Rattle.archive_shape.specs.Key.{HeldAt}
use Rattle.archive_shape.proofs.Held.{claims_within}
use Rattle.archive_forms_laws.specs.Text.{own_bytes, LiesAt, HasText, HasLength, IsTextThere}
use Rattle.archive_forms_laws.proofs.Held.{held_is_text_law, text_value}
use Rattle.archive_forms_values.specs.Parts.{HasValue}
use Rattle.archive_forms_values.proofs.Placed.{stands_far}
use Rattle.cabinet_text_grammar.specs.Tree.{Leaf, truth, number, text, Tree}
use Rattle.cabinet_text_grammar.specs.Answering.{done, refused, fits, outcome_there}
use Rattle.cabinet_documents.specs.Node as node
use Rattle.cabinet_documents.proofs.Known.{leaf_tag}
use Rattle.cabinet_archived.specs.Kind.{IsTagged, IsKindAt}
use Rattle.cabinet_archived.specs.declared.kind.ArchivedKind.{ArchivedKind}
use Rattle.cabinet_archived.specs.declared.kind.ArchivedKind.TheVariants as kind
use Rattle.cabinet_text_nodes.specs.View.{lent_leaf}
use Rattle.cabinet_text_nodes.specs.declared.leaf.LeafRef.{LeafRef}
use Rattle.cabinet_text_nodes.specs.declared.leaf.LeafRef.TheVariants as lent
use Rattle.cabinet_archives.specs.Found.{OfDocument}
use Rattle.cabinet_archives.specs.Putting.{BeginsAt, IsPut}
use Rattle.cabinet_archives.proofs.Outcomes.{refused_by_tag, decided_by_leaf, truth_fits, number_fits, text_fits}

module _ (bytes : List ℕ) where
  text_held : {knows : Names → Type 0} (pos : ℕ) (v : Value) → HeldAt text_shape knows bytes pos v → IsTextThere bytes pos v
  text_held pos v h = held_is_text_law h.names bytes h.level h.inside pos v h.regions h.before h.after h.own_within (claims_within h) h.holds

  pub has_text : {knows : Names → Type 0} (pos : ℕ) → HasValue text_shape knows bytes pos → HasText bytes pos
  has_text pos h = (text_held pos h.value h.held).stands.there

  -- ---- answers

  module _ (pos : ℕ) (new : Leaf) {s : Shape} {knows : Names → Type 0} {to : ℕ} where
    pub put_refused : (tag : ℕ) → IsTagged bytes pos tag s knows to → (tag ≡ leaf_tag new → ⊥) → OfDocument bytes pos (λ t. refused ≡ outcome_there new t)
    put_refused tag tagged other v t h d = sym (refused_by_tag new (tagged.payload v h).is d other)

    pub truth_put : (b : Bool) → new ≡ truth b → IsTagged bytes pos 0 s knows to → OfDocument bytes pos (λ t. done ≡ outcome_there new t)
    truth_put b is tagged v t h d = sym (decided_by_leaf new true (tagged.payload v h).is d (omega arith) (λ old f g. ap (fits old) is ∙ truth_fits old b f))

    pub number_put : (n : ℤ) → new ≡ number n → IsTagged bytes pos 1 s knows to → OfDocument bytes pos (λ t. done ≡ outcome_there new t)
    number_put n is tagged v t h d = sym (decided_by_leaf new true (tagged.payload v h).is d (omega arith) (λ old f g. ap (fits old) is ∙ number_fits old n f))

  pub text_put : (pos : ℕ) (new : Leaf) {knows : Names → Type 0} {to : ℕ} (u : List ℕ) (n : ℕ) (b : Bool)
      → new ≡ text u → IsTagged bytes pos 2 text_shape knows to → HasLength bytes to n → (n == length u) ≡ b → OfDocument bytes pos (λ t. (if b then done else refused) ≡ outcome_there new t)
  text_put pos new {to = to} u n b is tagged there e v t h d =
      let p = tagged.payload v h in
      let value = text_value bytes to there.0 p.payload (text_held to p.payload p.held) there.1 in
      sym (decided_by_leaf new b p.is d (omega arith) (λ old f g. ap (fits old) is ∙ text_fits old there.0 u f (sym value ∙ g) ∙ ap (λ m. m == length u) (sym there.2) ∙ e))

  -- ---- where a text of the same length is written

  pub own_is : (pos : ℕ) → take (pos + 8 - pos) (drop pos bytes) ≡ own_bytes bytes pos
  own_is pos = let eight : pos + 8 - pos ≡ 8 = omega arith in ap (λ n. take n (drop pos bytes)) eight

  -- a text that is not inline leads to its bytes
  pub far_leads : (pos : ℕ) (own : List ℕ) → own ≡ own_bytes bytes pos → HasText bytes pos → (IsInline (slice_index own 0) → ⊥) → (start : ℕ) × (target_from pos (word_at own 4) ≡ Some start)
  far_leads pos own is has begins =
      let far = stands_far bytes pos has.start has.len has.stands (subst (λ bs. IsInline (slice_index bs 0) → ⊥) is begins) in
      (has.start, ap (λ bs. target_from pos (word_at bs 4)) is ∙ far.leads)

  -- a text that is written there is put in its node
  pub text_is_put : (pos to start : ℕ) (new : Leaf) (u other after : List ℕ) → new ≡ text u → to ≡ pos + 4 → LiesAt bytes to start (length u) → other ≡ bytes → after ≡ overwrite other start u
      → IsPut bytes pos new after
  text_is_put pos to start new u other after is place lies same written = record {
    start = start;
    begins = subst (λ l. BeginsAt bytes pos l start) (sym is) (subst (λ m. LiesAt bytes m start (length u)) place lies);
    is = written ∙ ap (λ x. overwrite x start u) same ∙ ap (λ l. overwrite bytes start (node.own_bytes l)) (sym is);
  }

-- ---- kinds and leaves that do not go together

pub not_truth : (l : LeafRef) → ((b : Bool) → l ≡ lent.Bool b → ⊥) → 0 ≡ leaf_tag (lent_leaf l) → ⊥
not_truth (lent.Bool b) n e = n b refl
not_truth (lent.Int m) n e = omega (arith, e)
not_truth (lent.Text t) n e = omega (arith, e)

pub not_number : (l : LeafRef) → ((m : ℤ) → l ≡ lent.Int m → ⊥) → 1 ≡ leaf_tag (lent_leaf l) → ⊥
not_number (lent.Bool b) n e = omega (arith, e)
not_number (lent.Int m) n e = n m refl
not_number (lent.Text t) n e = omega (arith, e)

pub not_text : (l : LeafRef) → ((t : Bor (List ℕ)) → l ≡ lent.Text t → ⊥) → 2 ≡ leaf_tag (lent_leaf l) → ⊥
not_text (lent.Bool b) n e = omega (arith, e)
not_text (lent.Int m) n e = omega (arith, e)
not_text (lent.Text t) n e = n t refl

low_tag : (l : Leaf) → leaf_tag l < 3
low_tag (truth b) = omega arith
low_tag (number n) = omega arith
low_tag (text t) = omega arith

-- a node that is a shared text or a container takes no leaf
pub container_refuses : (bytes : Bor (List ℕ)) (pos : ℕ) (k : ArchivedKind) (new : Leaf) → IsKindAt bytes pos k
    → ((r : _) → k ≡ kind.Bool r → ⊥) → ((r : _) → k ≡ kind.Int r → ⊥) → ((r : _) → k ≡ kind.Text r → ⊥)
    → OfDocument bytes.now pos (λ t. refused ≡ outcome_there new t)
container_refuses bytes pos (kind.Bool r) new is no_truth no_number no_text = absurd (no_truth r refl)
container_refuses bytes pos (kind.Int r) new is no_truth no_number no_text = absurd (no_number r refl)
container_refuses bytes pos (kind.Text r) new is no_truth no_number no_text = absurd (no_text r refl)
container_refuses bytes pos (kind.Shared r) new is no_truth no_number no_text = put_refused bytes.now pos new 3 is.2 (λ e. let low = low_tag new in omega (arith, e, low))
container_refuses bytes pos (kind.Maybe r) new is no_truth no_number no_text = put_refused bytes.now pos new 4 is.2 (λ e. let low = low_tag new in omega (arith, e, low))
container_refuses bytes pos (kind.List r) new is no_truth no_number no_text = put_refused bytes.now pos new 5 is.2 (λ e. let low = low_tag new in omega (arith, e, low))
container_refuses bytes pos (kind.Ordered r) new is no_truth no_number no_text = put_refused bytes.now pos new 6 is.2 (λ e. let low = low_tag new in omega (arith, e, low))
container_refuses bytes pos (kind.Hashed r) new is no_truth no_number no_text = put_refused bytes.now pos new 7 is.2 (λ e. let low = low_tag new in omega (arith, e, low))
container_refuses bytes pos (kind.Kept r) new is no_truth no_number no_text = put_refused bytes.now pos new 8 is.2 (λ e. let low = low_tag new in omega (arith, e, low))
container_refuses bytes pos (kind.Whole r) new is no_truth no_number no_text = put_refused bytes.now pos new 9 is.2 (λ e. let low = low_tag new in omega (arith, e, low))

-- ---- the same bytes at the same place

pub of_same : {x y : Bor (List ℕ)} {pos to : ℕ} (P : Tree → Type 0) → x ≡ y → to ≡ pos → OfDocument x.now to P → OfDocument y.now pos P
of_same {x = x} {pos = pos} P e f d = subst (λ (b : Bor (List ℕ)). OfDocument b.now pos P) e (subst (λ n. OfDocument x.now n P) f d)
