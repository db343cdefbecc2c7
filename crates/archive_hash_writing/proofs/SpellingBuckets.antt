-- The buckets of places are read as they are written: items where controls are tags, and zeros elsewhere.
use Rattle.std.proofs.Common.{◌≡◌, ℕ, ◌+◌, ◌-◌, ◌*◌, ◌<◌, ◌≤◌, cond, List, [], ◌∷◌, ◌⊎◌, length, slice_index, refl, sym, ap, subst, ◌∙◌, arith, inl, inr, ⊎_elim, lt-ltb, le-ltb, length-append, Option, Some, None}
use Rattle.std.proofs.lemmas.Bool.{cases_lt}
use Rattle.std.proofs.lemmas.List.{length-replicate}
use Rattle.archive_shape_layout.specs.Shape.{Shape, size_of}
use Rattle.archive_shape_layout.specs.Content.{Names, Part, Item, tagged_items, item_part, item_size}
use Rattle.archive_shape_layout.specs.Content.Item.{item}
use Rattle.archive_shape_layout.specs.Content.Part.{at}
use Rattle.archive_shape_layout.specs.Holds.{OpenShared}
use Rattle.archive_shape_canonical.specs.Settled.{Fit}
use Rattle.archive_shape_canonical.specs.Clean.{IsIn, InParts}
use Rattle.archive_shape_canonical.specs.Canonical.{AreBytes}
use Rattle.archive_shape_canonical.specs.FirstFit.{present}
use Rattle.archive_shape.specs.Bytes.{HasBytes, zeros}
use Rattle.archive_shape.proofs.Pieces.{stands_left, stands_right, zero_stands}
use Rattle.archive_shape_layout.specs.declared.error.Error.{Error}
use Rattle.archive_forms_laws.specs.State.{State, Keys, visits_of, IsConsistent, AllFrom, AreKeyedBy}
use Rattle.archive_forms_laws.specs.Spelling.{Spelling, state_after}
use Rattle.archive_forms_laws.specs.Spells.{EachSpells}
use Rattle.archive_forms_laws.specs.Regions.{state_after_all, values, all_suit, pieces, pieces_fit}
use Rattle.archive_forms_laws.proofs.States.{from_earlier}
use Rattle.archive_forms_laws.proofs.Gaps.{bytes_none, bytes_append, bytes_zeros}
use Rattle.archive_forms_laws.proofs.Regions.{CanonicalParts, no_parts, more_parts, state_after_all_pos}
use Rattle.archive_hash_writing.specs.Tables.{buckets, buckets_fit, buckets_refused}
use Rattle.archive_hash_writing.proofs.Tagged.{AreTagged}

-- a place without a tag holds no item, and one with a tag does
pub tagged_none : (target : ℕ) (it : Item) (i c : ℕ) (cs : List ℕ) → 128 ≤ c → tagged_items target it i (c ∷ cs) ≡ tagged_items target it (i + 1) cs
unfolding tagged_items
tagged_none target it i c cs h =
    ap (λ b. cond b (item_part it (target - (i + 1) * item_size it) ∷ tagged_items target it (i + 1) cs) (tagged_items target it (i + 1) cs)) (le-ltb c 128 h)

pub tagged_some : (target : ℕ) (it : Item) (i c : ℕ) (cs : List ℕ) → c < 128
    → tagged_items target it i (c ∷ cs) ≡ item_part it (target - (i + 1) * item_size it) ∷ tagged_items target it (i + 1) cs
unfolding tagged_items
tagged_some target it i c cs h =
    ap (λ b. cond b (item_part it (target - (i + 1) * item_size it) ∷ tagged_items target it (i + 1) cs) (tagged_items target it (i + 1) cs)) (lt-ltb c 128 h)

module _ {A R : Type 0} (fit : Fit) (s : Shape) (knows : Names → Type 0) (w : Spelling A R) where
  -- each takes the size of an item
  pub length-buckets : (os : List (Option A)) (each : EachSpells fit s knows w (present os)) (st : State) (end : ℕ) → buckets_fit s w os st end → length (buckets s w os st end) ≡ length os * size_of s
  length-buckets [] each st end f = omega arith
  length-buckets (None ∷ os) each st end f =
      let rest = length-buckets os each st (end - size_of s) f in
      let none : length (zeros (size_of s)) ≡ size_of s = length-replicate _ _ in
      length-append (buckets s w os st (end - size_of s)) (zeros (size_of s)) ∙ omega (arith, rest, none)
  length-buckets (Some x ∷ os) each st end f =
      let pos = end - size_of s in
      let rest = length-buckets os each.1 (state_after w x st) pos f.1 in
      let own = each.0.sized (w.resolver x st) pos f.0.0 in
      length-append (buckets s w os (state_after w x st) pos) (w.own x (w.resolver x st) pos) ∙ omega (arith, rest, own)

  pub buckets_bytes : (os : List (Option A)) (each : EachSpells fit s knows w (present os)) (st : State) (end : ℕ) → buckets_fit s w os st end → AreBytes (buckets s w os st end)
  buckets_bytes [] each st end f = bytes_none
  buckets_bytes (None ∷ os) each st end f = bytes_append _ (zeros (size_of s)) (buckets_bytes os each st (end - size_of s) f) (bytes_zeros (size_of s))
  buckets_bytes (Some x ∷ os) each st end f =
      let pos = end - size_of s in
      bytes_append _ (w.own x (w.resolver x st) pos) (buckets_bytes os each.1 (state_after w x st) pos f.1) (each.0.own_bytes (w.resolver x st) pos f.0.0)

  -- what passes no limit is not refused
  pub buckets_exact : (os : List (Option A)) (each : EachSpells fit s knows w (present os)) (st : State) (end : ℕ) (e : Error) → buckets_fit s w os st end → buckets_refused s w os st end e → ⊥
  buckets_exact [] each st end e f r = r
  buckets_exact (None ∷ os) each st end e f r = buckets_exact os each st (end - size_of s) e f r
  buckets_exact (Some x ∷ os) each st end e f (inl (inl r)) = each.0.own_exact (w.resolver x st) (end - size_of s) e f.0.0 r
  buckets_exact (Some x ∷ os) each st end e f (inl (inr r)) = let h = r.0 in let g = f.0.1 in omega arith
  buckets_exact (Some x ∷ os) each st end e f (inr r) = buckets_exact os each.1 (state_after w x st) (end - size_of s) e f.1 r

  module _ (target : ℕ) (bytes : List ℕ) where
    -- a byte of buckets is one of an item, or zero
    pub buckets_cover :
        (os : List (Option A)) (each : EachSpells fit s knows w (present os)) (st : State) (i start end : ℕ) (cs : List ℕ)
        → start + length os * size_of s ≡ end
        → end ≡ target - i * size_of s
        → AreTagged os cs
        → buckets_fit s w os st end
        → HasBytes bytes start (buckets s w os st end)
        → (j : ℕ) → IsIn start (length os * size_of s) j → InParts (tagged_items target (item s) i cs) j ⊎ (slice_index bytes j ≡ 0)
    buckets_cover [] each st i start end cs long here t f b j o = let low = o.0 in let high = o.1 in absurd (omega arith)
    buckets_cover (None ∷ os) each st i start end [] long here t f b j o = absurd t
    buckets_cover (Some x ∷ os) each st i start end [] long here t f b j o = absurd t
    buckets_cover (None ∷ os) each st i start end (c ∷ cs) long here t f b j o =
        let low = o.0 in
        let high = o.1 in
        let pos = end - size_of s in
        let rest = buckets s w os st pos in
        let next : start + length os * size_of s ≡ pos = omega arith in
        let len = length-buckets os each st pos f in
        let empty = stands_right bytes start rest (zeros (size_of s)) pos (omega (arith, len)) b in
        subst (λ ps. InParts ps j ⊎ (slice_index bytes j ≡ 0)) (sym (tagged_none target (item s) i c cs t.0))
        (⊎_elim
        (λ l. buckets_cover os each st (i + 1) start pos cs next (omega arith) t.1 f (stands_left bytes start rest (zeros (size_of s)) b) j (low, omega arith))
        (λ g. inr (zero_stands bytes pos (size_of s) j empty g (omega arith)))
        (cases_lt j pos))
    buckets_cover (Some x ∷ os) each st i start end (c ∷ cs) long here t f b j o =
        let low = o.0 in
        let high = o.1 in
        let pos = end - size_of s in
        let then = state_after w x st in
        let rest = buckets s w os then pos in
        let next : start + length os * size_of s ≡ pos = omega arith in
        let at_pos : target - (i + 1) * size_of s ≡ pos = omega arith in
        subst (λ ps. InParts ps j ⊎ (slice_index bytes j ≡ 0)) (sym (tagged_some target (item s) i c cs t.0))
        (⊎_elim
        (λ l. ⊎_elim (λ p. inl (inr p)) (λ z. inr z)
        (buckets_cover os each.1 then (i + 1) start pos cs next (omega arith) t.1 f.1 (stands_left bytes start rest (w.own x (w.resolver x st) pos) b) j (low, omega arith)))
        (λ g. inl (inl (omega arith, omega arith)))
        (cases_lt j pos))

    pub buckets_canonical :
        (os : List (Option A)) (each : EachSpells fit s knows w (present os)) (st : State) (i start end : ℕ) (cs : List ℕ) (names : Names) (keys : Keys) (level : ℕ) (inside : List OpenShared)
        → start + length os * size_of s ≡ end
        → end ≡ target - i * size_of s
        → AreTagged os cs
        → knows names
        → all_suit w fit keys (present os)
        → AreKeyedBy keys st.met
        → IsConsistent st
        → AllFrom (state_after_all w (present os) st).pos inside
        → pieces_fit w (present os) st
        → buckets_fit s w os st end
        → HasBytes bytes st.pos (pieces w (present os) st)
        → HasBytes bytes start (buckets s w os st end)
        → CanonicalParts fit names bytes level inside (visits_of st.met) (visits_of (state_after_all w (present os) st).met) (tagged_items target (item s) i cs) (values w (present os) st) st.pos (state_after_all w (present os) st).pos
    unfolding tagged_items
    buckets_canonical [] each st i start end [] names keys level inside long here t k n known state over f o p b = no_parts (visits_of st.met) st.pos
    buckets_canonical [] each st i start end (c ∷ cs) names keys level inside long here t k n known state over f o p b = absurd t
    buckets_canonical (None ∷ os) each st i start end [] names keys level inside long here t k n known state over f o p b = absurd t
    buckets_canonical (Some x ∷ os) each st i start end [] names keys level inside long here t k n known state over f o p b = absurd t
    buckets_canonical (None ∷ os) each st i start end (c ∷ cs) names keys level inside long here t k n known state over f o p b =
        let pos = end - size_of s in
        subst (λ ps. CanonicalParts fit names bytes level inside (visits_of st.met) (visits_of (state_after_all w (present os) st).met) ps (values w (present os) st) st.pos (state_after_all w (present os) st).pos)
        (sym (tagged_none target (item s) i c cs t.0))
        (buckets_canonical os each st (i + 1) start pos cs names keys level inside (omega arith) (omega arith) t.1 k n known state over f o p
        (stands_left bytes start (buckets s w os st pos) (zeros (size_of s)) b))
    buckets_canonical (Some x ∷ os) each st i start end (c ∷ cs) names keys level inside long here t k n known state over f o p b =
        let pos = end - size_of s in
        let xs = present os in
        let piece = w.piece x st in
        let own = w.own x (w.resolver x st) pos in
        let then = state_after w x st in
        let high = (state_after_all w xs then).pos in
        let more : then.pos ≤ high = let e = state_after_all_pos fit s knows w xs then in omega arith in
        let up : st.pos ≤ then.pos = omega arith in
        let next : start + length os * size_of s ≡ pos = omega arith in
        let at_pos : pos ≡ target - (i + 1) * size_of s = omega arith in
        let len = length-buckets os each.1 then pos o.1 in
        let rest = buckets s w os then pos in
        let first = each.0.canonical st pos names keys bytes level inside k n.0 known state (from_earlier inside then.pos high more over) f.0 o.0.0
        (stands_left bytes st.pos piece (pieces w xs then) p) (stands_right bytes start rest own pos (omega (arith, len)) b) in
        let later = buckets_canonical os each.1 then (i + 1) start pos cs names keys level inside next at_pos t.1 k n.1 (each.0.keyed keys st n.0 known f.0).1 (each.0.consistent st state f.0) over f.1 o.1
        (stands_right bytes st.pos piece (pieces w xs then) then.pos refl p) (stands_left bytes start rest own b) in
        let P : List Part → Type 0 = λ ps. CanonicalParts fit names bytes level inside (visits_of st.met) (visits_of (state_after_all w xs then).met) ps (values w (x ∷ xs) st) st.pos high in
        subst P (ap (λ z. at z s ∷ tagged_items target (item s) (i + 1) cs) at_pos ∙ sym (tagged_some target (item s) i c cs t.0))
        (more_parts (visits_of st.met) (visits_of then.met) (visits_of (state_after_all w xs then).met) (at pos s) (tagged_items target (item s) (i + 1) cs) (w.value x st) (values w xs then) st.pos then.pos high up more first later)
