-- Where the parts of a node lie, and that its other bytes are zero.
use Rattle.std.proofs.Common.{◌≡◌, ℕ, zero, suc, ◌+◌, ◌-◌, ◌*◌, ◌%◌, ◌<◌, ◌≤◌, Some, List, [], ◌∷◌, ◌++◌, length, refl, ap, sym, arith, ◌∙◌, ◌⊎◌, inl, inr, ⊎_elim, length-append}
use Rattle.std.proofs.lemmas.Bool.{cases_lt}
use Rattle.std.proofs.lemmas.List.{length-replicate}
use Rattle.std.specs.Prelude.{slice_index}
use Rattle.archive_shape_layout.specs.Shape.{Shape, size_of}
use Rattle.archive_shape_layout.specs.Value.{Value, Values}
use Rattle.archive_shape_layout.specs.Bytes.{align_up}
use Rattle.archive_shape_layout.specs.Content.{Names, Part, Span, Label, made, IsLegal, content_of, entries, children}
use Rattle.archive_shape_layout.specs.Content.Content.{claimed}
use Rattle.archive_shape_layout.specs.Holds.{Region, region_of, Visit, OpenShared, Ascends}
use Rattle.archive_shape_layout.specs.Holds.Holds.{holds_claimed}
use Rattle.archive_shape_canonical.specs.Settled.{Fit, IsSettled}
use Rattle.archive_shape_canonical.specs.Clean.{IsClean, IsIn, InParts}
use Rattle.archive_shape.specs.Bytes.{HasBytes, zeros}
use Rattle.archive_shape.proofs.Pieces.{stands_left, stands_right, zero_stands}
use Rattle.archive_forms_laws.specs.Spells.{CanonicalPart}
use Rattle.archive_forms_laws.proofs.Gaps.{gaps_join, ascends_join}
use Rattle.archive_forms_laws.proofs.Regions.{CanonicalParts}
use Rattle.archive_forms_laws.proofs.Aligning.{align_up_aligned}
use Rattle.archive_btree_spelling.specs.Written.{filled}

-- ---- bytes that are filled up

pub length-filled : (n : ℕ) (bs : List ℕ) → length bs ≤ n → length (filled n bs) ≡ n
length-filled n bs h =
    let rest : length (zeros (n - length bs)) ≡ n - length bs = length-replicate _ _ in
    omega (arith, length-append bs (zeros (n - length bs)), rest, h)

pub filled_covers : (bytes : List ℕ) (pos n : ℕ) (bs : List ℕ) → length bs ≤ n → HasBytes bytes pos (filled n bs) → (i : ℕ) → IsIn pos n i → IsIn pos (length bs) i ⊎ (slice_index bytes i ≡ 0)
filled_covers bytes pos n bs h s i o =
    let low = o.0 in
    let high = o.1 in
    let back = stands_right bytes pos bs (zeros (n - length bs)) (pos + length bs) refl s in
    ⊎_elim
    (λ l. inl (low, l))
    (λ g. inr (zero_stands bytes (pos + length bs) (n - length bs) i back g (omega (arith, h, high))))
    (cases_lt i (pos + length bs))

-- four pieces, each from its offset on and with zeros up to the next
pub record Quarters (bytes : List ℕ) (pos a b c d kind : ℕ) (ks vs ws : List ℕ) : Type 0 where
  pub kind_stands : HasBytes bytes pos (kind ∷ [])
  pub keys_stand : HasBytes bytes (pos + a) ks
  pub values_stand : HasBytes bytes (pos + b) vs
  pub words_stand : HasBytes bytes (pos + c) ws
  pub covers : (i : ℕ) → IsIn pos d i → (i ≡ pos) ⊎ (IsIn (pos + a) (length ks) i ⊎ (IsIn (pos + b) (length vs) i ⊎ (IsIn (pos + c) (length ws) i ⊎ (slice_index bytes i ≡ 0))))

abbrev pub quarters_bytes : (a b c d kind : ℕ) (ks vs ws : List ℕ) → List ℕ
quarters_bytes a b c d kind ks vs ws = filled a (kind ∷ []) ++ (filled (b - a) ks ++ (filled (c - b) vs ++ filled (d - c) ws))

pub length-quarters : (a b c d kind : ℕ) (ks vs ws : List ℕ) → 1 ≤ a → a + length ks ≤ b → b + length vs ≤ c → c + length ws ≤ d
    → length (quarters_bytes a b c d kind ks vs ws) ≡ d
length-quarters a b c d kind ks vs ws f g h k =
    let fourth = filled (d - c) ws in
    let third = filled (c - b) vs in
    let second = filled (b - a) ks in
    let first = filled a (kind ∷ []) in
    let e₁ = length-filled a (kind ∷ []) f in
    let e₂ = length-filled (b - a) ks (omega (arith, g)) in
    let e₃ = length-filled (c - b) vs (omega (arith, h)) in
    let e₄ = length-filled (d - c) ws (omega (arith, k)) in
    omega (arith, length-append first (second ++ (third ++ fourth)), length-append second (third ++ fourth), length-append third fourth, e₁, e₂, e₃, e₄)

pub quarters : (bytes : List ℕ) (pos a b c d kind : ℕ) (ks vs ws : List ℕ) → 1 ≤ a → a + length ks ≤ b → b + length vs ≤ c → c + length ws ≤ d
    → HasBytes bytes pos (quarters_bytes a b c d kind ks vs ws) → Quarters bytes pos a b c d kind ks vs ws
quarters bytes pos a b c d kind ks vs ws f g h k s =
    let fourth = filled (d - c) ws in
    let third = filled (c - b) vs in
    let second = filled (b - a) ks in
    let first = filled a (kind ∷ []) in
    let e₁ = length-filled a (kind ∷ []) f in
    let e₂ = length-filled (b - a) ks (omega (arith, g)) in
    let e₃ = length-filled (c - b) vs (omega (arith, h)) in
    let s₁ = stands_left bytes pos first (second ++ (third ++ fourth)) s in
    let r₁ = stands_right bytes pos first (second ++ (third ++ fourth)) (pos + a) (omega (arith, e₁)) s in
    let s₂ = stands_left bytes (pos + a) second (third ++ fourth) r₁ in
    let r₂ = stands_right bytes (pos + a) second (third ++ fourth) (pos + b) (omega (arith, e₂, g)) r₁ in
    let s₃ = stands_left bytes (pos + b) third fourth r₂ in
    let s₄ = stands_right bytes (pos + b) third fourth (pos + c) (omega (arith, e₃, h)) r₂ in
    record {
      kind_stands = stands_left bytes pos (kind ∷ []) (zeros (a - 1)) s₁;
      keys_stand = stands_left bytes (pos + a) ks (zeros (b - a - length ks)) s₂;
      values_stand = stands_left bytes (pos + b) vs (zeros (c - b - length vs)) s₃;
      words_stand = stands_left bytes (pos + c) ws (zeros (d - c - length ws)) s₄;
      covers = λ i o.
          let low = o.0 in
          let high = o.1 in
          ⊎_elim
          (λ l. ⊎_elim (λ x. let near = x.1 in let from = x.0 in inl (omega (arith, near, from))) (λ z. inr (inr (inr (inr z)))) (filled_covers bytes pos a (kind ∷ []) f s₁ i (low, l)))
          (λ l₁. ⊎_elim
          (λ l. ⊎_elim (λ x. inr (inl x)) (λ z. inr (inr (inr (inr z)))) (filled_covers bytes (pos + a) (b - a) ks (omega (arith, g)) s₂ i (l₁, omega (arith, l))))
          (λ l₂. ⊎_elim
          (λ l. ⊎_elim (λ x. inr (inr (inl x))) (λ z. inr (inr (inr (inr z)))) (filled_covers bytes (pos + b) (c - b) vs (omega (arith, h)) s₃ i (l₂, omega (arith, l))))
          (λ l₃. ⊎_elim (λ x. inr (inr (inr (inl x)))) (λ z. inr (inr (inr (inr z)))) (filled_covers bytes (pos + c) (d - c) ws (omega (arith, k)) s₄ i (l₃, omega (arith, high))))
          (cases_lt i (pos + c)))
          (cases_lt i (pos + b)))
          (cases_lt i (pos + a));
    }

-- ---- the bytes of parts

-- a byte of a key slot is one of an entry, and so of a value slot
pub entries_own_keys : (n : ℕ) (k : Shape) (a : ℕ) (v : Shape) (b i : ℕ) → IsIn a (n * size_of k) i → InParts (entries n k a v b) i
unfolding entries
entries_own_keys zero k a v b i o = let low = o.0 in let high = o.1 in absurd (omega (arith, low, high))
entries_own_keys (suc n) k a v b i o =
    let low = o.0 in
    let high = o.1 in
    ⊎_elim (λ l. inl (inl (low, l))) (λ g. inr (entries_own_keys n k (a + size_of k) v (b + size_of v) i (g, omega (arith, high)))) (cases_lt i (a + size_of k))

pub entries_own_values : (n : ℕ) (k : Shape) (a : ℕ) (v : Shape) (b i : ℕ) → IsIn b (n * size_of v) i → InParts (entries n k a v b) i
unfolding entries
entries_own_values zero k a v b i o = let low = o.0 in let high = o.1 in absurd (omega (arith, low, high))
entries_own_values (suc n) k a v b i o =
    let low = o.0 in
    let high = o.1 in
    ⊎_elim (λ l. inl (inr (low, l))) (λ g. inr (entries_own_values n k (a + size_of k) v (b + size_of v) i (g, omega (arith, high)))) (cases_lt i (b + size_of v))

pub children_own : (n t most : ℕ) (k v : Shape) (pos i : ℕ) → IsIn pos (n * 4) i → InParts (children n t most k v pos) i
unfolding children
children_own zero t most k v pos i o = let low = o.0 in let high = o.1 in absurd (omega (arith, low, high))
children_own (suc n) t most k v pos i o =
    let low = o.0 in
    let high = o.1 in
    ⊎_elim (λ l. inl (low, l)) (λ g. inr (children_own n t most k v (pos + 4) i (g, omega (arith, high)))) (cases_lt i (pos + 4))

pub in_parts_left : (ps qs : List Part) (i : ℕ) → InParts ps i → InParts (ps ++ qs) i
in_parts_left [] qs i h = absurd h
in_parts_left (p ∷ ps) qs i (inl o) = inl o
in_parts_left (p ∷ ps) qs i (inr h) = inr (in_parts_left ps qs i h)

pub in_parts_right : (ps qs : List Part) (i : ℕ) → InParts qs i → InParts (ps ++ qs) i
in_parts_right [] qs i h = h
in_parts_right (p ∷ ps) qs i h = inr (in_parts_right ps qs i h)

-- ---- a region after the parts in it

pub claimed_part :
    {fit : Fit} {names : Names} {bytes : List ℕ} {level : ℕ} {inside : List OpenShared} {before after : List Visit}
    (q : Part) (c : Span) (l : Label) (ps : List Part) (vs : Values) (v : Value) (low mid : ℕ)
    → content_of names bytes q ≡ claimed c l ps
    → IsLegal l
    → made l vs ≡ Some v
    → IsClean names bytes q
    → IsSettled fit bytes q ps vs
    → low ≤ mid
    → 0 < c.align
    → c.start ≡ align_up mid c.align
    → mid ≤ c.start
    → HasBytes bytes mid (zeros (c.start - mid))
    → CanonicalParts fit names bytes (suc level) inside before after ps vs low mid
    → CanonicalPart fit names bytes level inside before after q v low (c.start + c.size)
unfolding Ascends
claimed_part {bytes = bytes} {level = level} q c l ps vs v low mid e legal m clean settled up some start behind gap h =
    let region : Region = region_of c level in
    let high = c.start + c.size in
    let aligned : c.start % c.align ≡ 0 = ap (λ z. z % c.align) start ∙ align_up_aligned mid c.align some in
    record {
      regions = h.regions ++ region ∷ [];
      reads = record {
        holds = holds_claimed e legal h.hold m refl;
        canonical = (clean, settled, h.canonical, start ∙ sym (ap (λ z. align_up z c.align) h.ends));
        ends = refl;
      };
      ascends = ascends_join low mid high h.regions (region ∷ []) h.ascends (record { after = behind; aligned = aligned; inside = omega arith }, tt) up (omega (arith, behind));
      gaps = gaps_join bytes h.regions (region ∷ []) low mid high h.gaps
          (λ i a b. ⊎_elim (λ x. inr (zero_stands bytes mid (c.start - mid) i gap a (omega (arith, x, behind)))) (λ g. inl (inl (g, b))) (cases_lt i c.start));
    }
