-- Contiguous values are read as they are written, and the region of their own bytes is claimed.
use Rattle.std.proofs.Common.{◌≡◌, ℕ, suc, ◌+◌, ◌-◌, ◌*◌, ◌%◌, ◌≤◌, List, [], ◌∷◌, ◌++◌, refl, length, sym, ap, ap₂, subst, ◌∙◌, arith, inl, inr, ⊎_elim, length-append, add-zero}
use Rattle.std.specs.Prelude.{⊤}
use Rattle.std.proofs.lemmas.Bool.{cases_lt}
use Rattle.std.proofs.lemmas.List.{length-replicate}
use Rattle.archive_shape_layout.specs.Bytes.{align_up}
use Rattle.archive_shape_layout.specs.Shape.{Shape, size_of, align_of}
use Rattle.archive_shape_layout.specs.Shape.Pointee.{sized, slice}
use Rattle.archive_shape_layout.specs.Value.{Value, Values}
use Rattle.archive_shape_layout.specs.Value.Value.{group}
use Rattle.archive_shape_layout.specs.Value.Values.{no_values, more_values}
use Rattle.archive_shape_layout.specs.Content.{Names, Part, elements, made, pointee_content}
use Rattle.archive_shape_layout.specs.Content.Part.{at, behind}
use Rattle.archive_shape_layout.specs.Content.Label.{same, whole}
use Rattle.archive_shape_layout.specs.Content.Content.{claimed}
use Rattle.archive_shape_layout.specs.Holds.{HoldAll, Visit, OpenShared, Region, Ascends}
use Rattle.archive_shape_layout.specs.Holds.Holds.{holds_claimed}
use Rattle.archive_shape_layout.specs.Holds.HoldAll.{holds_none, holds_more}
use Rattle.archive_shape_layout.proofs.Framed.{le_align_up}
use Rattle.archive_shape_canonical.specs.Settled.{Fit}
use Rattle.archive_shape_canonical.specs.Sharing.{all_erased}
use Rattle.archive_shape_canonical.specs.Canonical.{end_of_all, AreCanonical}
use Rattle.archive_shape_canonical.proofs.Cleanness.{clean_by, elements_own}
use Rattle.archive_shape.specs.Bytes.{HasBytes, zeros}
use Rattle.archive_shape.proofs.Pieces.{stands_left, stands_right, zero_stands}
use Rattle.archive_shape_layout.specs.declared.error.Error.{Error}
use Rattle.archive_forms_laws.specs.State.{State, Keys, visits_of, IsConsistent, AllFrom, AreKeyedBy}
use Rattle.archive_forms_laws.specs.Spelling.{Spelling, state_after}
use Rattle.archive_forms_laws.specs.Spells.{CanonicalPart, SpellsAt, EachSpells, AreGapsZero}
use Rattle.archive_shape_canonical.specs.Canonical.{AreBytes}
use Rattle.archive_forms_laws.specs.Regions.{state_after_all, values, plain_values, all_suit, pieces, owns, pieces_fit, owns_fit, pieces_refused, owns_refused, region_at, region_piece, region_fits, region_refused}
use Rattle.archive_forms_laws.proofs.Aligning.{starts_aligned}
use Rattle.archive_forms_laws.proofs.States.{from_earlier}
use Rattle.archive_forms_laws.proofs.Gaps.{gaps_join, ascends_join, bytes_none, bytes_append, bytes_zeros}

-- parts have values as writing makes them, with regions from one position to another
pub record CanonicalParts (fit : Fit) (names : Names) (bytes : List ℕ) (level : ℕ) (inside : List OpenShared) (before after : List Visit) (ps : List Part) (vs : Values) (low high : ℕ) : Type 0 where
  pub regions : List Region
  pub hold : HoldAll names bytes level inside ps vs regions before after
  pub canonical : AreCanonical fit hold low
  pub ends : end_of_all hold low ≡ high
  pub ascends : Ascends low high regions
  pub gaps : AreGapsZero bytes regions low high

module _ {fit : Fit} {names : Names} {bytes : List ℕ} {level : ℕ} {inside : List OpenShared} where
  pub no_parts : (visits : List Visit) (low : ℕ) → CanonicalParts fit names bytes level inside visits visits [] no_values low low
  unfolding Ascends
  no_parts visits low = record {
    regions = [];
    hold = holds_none refl refl refl;
    canonical = tt;
    ends = refl;
    ascends = tt;
    gaps = λ i h g. absurd (omega (arith, h, g));
  }

  pub more_parts : (before between after : List Visit) (p : Part) (ps : List Part) (v : Value) (vs : Values) (low mid high : ℕ)
      → low ≤ mid → mid ≤ high
      → CanonicalPart fit names bytes level inside before between p v low mid
      → CanonicalParts fit names bytes level inside between after ps vs mid high
      → CanonicalParts fit names bytes level inside before after (p ∷ ps) (more_values v vs) low high
  more_parts before between after p ps v vs low mid high up more h k =
      let P : ℕ → Type 0 = λ n. AreCanonical fit k.hold n in
      record {
        regions = h.regions ++ k.regions;
        hold = holds_more h.reads.holds k.hold refl refl;
        canonical = (h.reads.canonical, subst P (sym h.reads.ends) k.canonical);
        ends = ap (end_of_all k.hold) h.reads.ends ∙ k.ends;
        ascends = ascends_join low mid high h.regions k.regions h.ascends k.ascends up more;
        gaps = gaps_join bytes h.regions k.regions low mid high h.gaps k.gaps;
      }

module _ {A R : Type 0} (fit : Fit) (s : Shape) (knows : Names → Type 0) (w : Spelling A R) where
  -- the own bytes of each exceed no limit, regardless of where they end
  abbrev pub OwnsPass : List A → State → ℕ → Type 0
  OwnsPass [] st pos = ⊤
  OwnsPass (x ∷ xs) st pos = w.own_fits x (w.resolver x st) pos × OwnsPass xs (state_after w x st) (pos + length (w.own x (w.resolver x st) pos))

  -- so they do where they end before position 2^64
  pub owns_pass : (xs : List A) (st : State) (pos : ℕ) → owns_fit w s xs st pos → OwnsPass xs st pos
  owns_pass [] st pos f = tt
  owns_pass (x ∷ xs) st pos f = (f.0.0, owns_pass xs (state_after w x st) (pos + length (w.own x (w.resolver x st) pos)) f.1)

  -- each takes its size
  pub length-owns : (xs : List A) (each : EachSpells fit s knows w xs) (st : State) (pos : ℕ) → OwnsPass xs st pos → length (owns w xs st pos) ≡ length xs * size_of s
  length-owns [] each st pos h = omega arith
  length-owns (x ∷ xs) each st pos h =
      let own = w.own x (w.resolver x st) pos in
      let first = each.0.sized (w.resolver x st) pos h.0 in
      let rest = length-owns xs each.1 (state_after w x st) (pos + length own) h.1 in
      length-append own (owns w xs (state_after w x st) (pos + length own)) ∙ omega (arith, first, rest)

  pub state_after_all_pos : (xs : List A) (st : State) → (state_after_all w xs st).pos ≡ st.pos + length (pieces w xs st)
  state_after_all_pos [] st = sym (add-zero st.pos)
  state_after_all_pos (x ∷ xs) st = let rest = state_after_all_pos xs (state_after w x st) in omega (arith, rest, length-append (w.piece x st) (pieces w xs (state_after w x st)))

  pub state_after_all_begun : (xs : List A) (st : State) → (state_after_all w xs st).begun ≡ st.begun
  state_after_all_begun [] st = refl
  state_after_all_begun (x ∷ xs) st = state_after_all_begun xs (state_after w x st)

  pub state_after_all_consistent : (xs : List A) (each : EachSpells fit s knows w xs) (st : State) → IsConsistent st → pieces_fit w xs st → IsConsistent (state_after_all w xs st)
  state_after_all_consistent [] each st h f = h
  state_after_all_consistent (x ∷ xs) each st h f = state_after_all_consistent xs each.1 (state_after w x st) (each.0.consistent st h f.0) f.1

  pub state_after_all_keyed : (xs : List A) (each : EachSpells fit s knows w xs) (keys : Keys) (st : State) → all_suit w fit keys xs → AreKeyedBy keys st.met → pieces_fit w xs st
      → (all_erased (values w xs st) ≡ plain_values w xs) × AreKeyedBy keys (state_after_all w xs st).met
  state_after_all_keyed [] each keys st n k f = (refl, k)
  state_after_all_keyed (x ∷ xs) each keys st n k f =
      let first = each.0.keyed keys st n.0 k f.0 in
      let rest = state_after_all_keyed xs each.1 keys (state_after w x st) n.1 first.1 f.1 in
      (ap₂ more_values first.0 rest.0, rest.1)

  pub pieces_bytes : (xs : List A) (each : EachSpells fit s knows w xs) (st : State) → pieces_fit w xs st → AreBytes (pieces w xs st)
  pieces_bytes [] each st f = bytes_none
  pieces_bytes (x ∷ xs) each st f = bytes_append (w.piece x st) _ (each.0.piece_bytes st f.0) (pieces_bytes xs each.1 (state_after w x st) f.1)

  pub owns_bytes : (xs : List A) (each : EachSpells fit s knows w xs) (st : State) (pos : ℕ) → OwnsPass xs st pos → AreBytes (owns w xs st pos)
  owns_bytes [] each st pos f = bytes_none
  owns_bytes (x ∷ xs) each st pos f =
      let own = w.own x (w.resolver x st) pos in
      bytes_append own _ (each.0.own_bytes (w.resolver x st) pos f.0) (owns_bytes xs each.1 (state_after w x st) (pos + length own) f.1)

  pub region_bytes : (xs : List A) (each : EachSpells fit s knows w xs) (st : State) → region_fits w s xs st → AreBytes (region_piece w s xs st)
  region_bytes xs each st f =
      let t = region_at w s xs st in
      bytes_append (pieces w xs st) _ (pieces_bytes xs each st f.0) (bytes_append (zeros (t - (state_after_all w xs st).pos)) _ (bytes_zeros _) (owns_bytes xs each st t (owns_pass xs st t f.2)))

  pub elements_canonical :
      (xs : List A) (each : EachSpells fit s knows w xs) (st : State) (pos : ℕ) (names : Names) (keys : Keys) (bytes : List ℕ) (level : ℕ) (inside : List OpenShared)
      → knows names
      → all_suit w fit keys xs
      → AreKeyedBy keys st.met
      → IsConsistent st
      → AllFrom (state_after_all w xs st).pos inside
      → pieces_fit w xs st
      → OwnsPass xs st pos
      → HasBytes bytes st.pos (pieces w xs st)
      → HasBytes bytes pos (owns w xs st pos)
      → CanonicalParts fit names bytes level inside (visits_of st.met) (visits_of (state_after_all w xs st).met) (elements pos (length xs) s) (values w xs st) st.pos (state_after_all w xs st).pos
  unfolding elements
  elements_canonical [] each st pos names keys bytes level inside k n known state over f o p q = no_parts (visits_of st.met) st.pos
  elements_canonical (x ∷ xs) each st pos names keys bytes level inside k n known state over f o p q =
      let piece = w.piece x st in
      let own = w.own x (w.resolver x st) pos in
      let then = state_after w x st in
      let end = (state_after_all w xs then).pos in
      let more : then.pos ≤ end = let e = state_after_all_pos xs then in omega arith in
      let up : st.pos ≤ then.pos = omega arith in
      let size : length own ≡ size_of s = each.0.sized (w.resolver x st) pos o.0 in
      let first = each.0.canonical st pos names keys bytes level inside k n.0 known state (from_earlier inside then.pos end more over) f.0 o.0
      (stands_left bytes st.pos piece (pieces w xs then) p) (stands_left bytes pos own (owns w xs then (pos + length own)) q) in
      let rest = elements_canonical xs each.1 then (pos + length own) names keys bytes level inside k n.1 (each.0.keyed keys st n.0 known f.0).1 (each.0.consistent st state f.0) over f.1 o.1
      (stands_right bytes st.pos piece (pieces w xs then) then.pos refl p) (stands_right bytes pos own (owns w xs then (pos + length own)) (pos + length own) refl q) in
      let P : ℕ → Type 0 = λ z. CanonicalParts fit names bytes level inside (visits_of st.met) (visits_of (state_after_all w xs then).met) (at pos s ∷ elements (pos + z) (length xs) s) (values w (x ∷ xs) st) st.pos end in
      subst P size
      (more_parts (visits_of st.met) (visits_of then.met) (visits_of (state_after_all w xs then).met) (at pos s) (elements (pos + length own) (length xs) s) (w.value x st) (values w xs then) st.pos then.pos end up more first rest)

  -- what exceeds no limit is not refused
  pub pieces_exact : (xs : List A) (each : EachSpells fit s knows w xs) (st : State) (e : Error) → pieces_fit w xs st → pieces_refused w xs st e → ⊥
  pieces_exact [] each st e f r = r
  pieces_exact (x ∷ xs) each st e f (inl r) = each.0.piece_exact st e f.0 r
  pieces_exact (x ∷ xs) each st e f (inr r) = pieces_exact xs each.1 (state_after w x st) e f.1 r

  pub owns_exact : (xs : List A) (each : EachSpells fit s knows w xs) (st : State) (pos : ℕ) (e : Error) → owns_fit w s xs st pos → owns_refused w s xs st pos e → ⊥
  owns_exact [] each st pos e f r = r
  owns_exact (x ∷ xs) each st pos e f (inl (inl r)) = each.0.own_exact (w.resolver x st) pos e f.0.0 r
  owns_exact (x ∷ xs) each st pos e f (inl (inr r)) = let h = r.0 in let g = f.0.1 in omega arith
  owns_exact (x ∷ xs) each st pos e f (inr r) = owns_exact xs each.1 (state_after w x st) (pos + length (w.own x (w.resolver x st) pos)) e f.1 r

  pub region_exact : (xs : List A) (each : EachSpells fit s knows w xs) (st : State) (e : Error) → region_fits w s xs st → region_refused w s xs st e → ⊥
  region_exact xs each st e f (inl r) = pieces_exact xs each st e f.0 r
  region_exact xs each st e f (inr (inl r)) = let h = r.0 in let g = f.1 in omega arith
  region_exact xs each st e f (inr (inr r)) = owns_exact xs each st (region_at w s xs st) e f.2 r

  pub region_up : (xs : List A) (st : State) → (state_after_all w xs st).pos ≤ region_at w s xs st
  region_up xs st = le_align_up (state_after_all w xs st).pos (align_of s)

  -- where a region of elements ends
  pub region_end : (xs : List A) (each : EachSpells fit s knows w xs) (st : State) → region_fits w s xs st
      → st.pos + length (region_piece w s xs st) ≡ region_at w s xs st + length xs * size_of s
  region_end xs each st f =
      let t = region_at w s xs st in
      let front = pieces w xs st in
      let gap = zeros (t - (state_after_all w xs st).pos) in
      let at_end = state_after_all_pos xs st in
      let up = region_up xs st in
      let n = length-owns xs each st t (owns_pass xs st t f.2) in
      let filled : length gap ≡ t - (state_after_all w xs st).pos = length-replicate _ _ in
      omega (arith, length-append front (gap ++ owns w xs st t), length-append gap (owns w xs st t))

  -- the zeros before a region and the own bytes in it
  pub gap_stands : (xs : List A) (st : State) (bytes : List ℕ) → HasBytes bytes st.pos (region_piece w s xs st)
      → HasBytes bytes (state_after_all w xs st).pos (zeros (region_at w s xs st - (state_after_all w xs st).pos) ++ owns w xs st (region_at w s xs st))
  gap_stands xs st bytes p =
      stands_right bytes st.pos (pieces w xs st) (zeros (region_at w s xs st - (state_after_all w xs st).pos) ++ owns w xs st (region_at w s xs st)) (state_after_all w xs st).pos (sym (state_after_all_pos xs st)) p

  -- the elements of a region are read as they are written
  pub region_canonical :
      (xs : List A) (each : EachSpells fit s knows w xs) (st : State) (names : Names) (keys : Keys) (bytes : List ℕ) (level : ℕ) (inside : List OpenShared)
      → knows names
      → all_suit w fit keys xs
      → AreKeyedBy keys st.met
      → IsConsistent st
      → AllFrom (state_after_all w xs st).pos inside
      → region_fits w s xs st
      → HasBytes bytes st.pos (region_piece w s xs st)
      → CanonicalParts fit names bytes level inside (visits_of st.met) (visits_of (state_after_all w xs st).met) (elements (region_at w s xs st) (length xs) s) (values w xs st) st.pos (state_after_all w xs st).pos
  region_canonical xs each st names keys bytes level inside k n known state over f p =
      let t = region_at w s xs st in
      let front = pieces w xs st in
      let gap = zeros (t - (state_after_all w xs st).pos) in
      let up = region_up xs st in
      let filled : length gap ≡ t - (state_after_all w xs st).pos = length-replicate _ _ in
      elements_canonical xs each st t names keys bytes level inside k n known state over f.0 (owns_pass xs st t f.2)
      (stands_left bytes st.pos front (gap ++ owns w xs st t) p)
      (stands_right bytes (state_after_all w xs st).pos gap (owns w xs st t) t (omega arith) (gap_stands xs st bytes p))

  -- the region itself leaves no gap except for zeros, and ascends after those of the data
  region_gaps : (xs : List A) (st : State) (bytes : List ℕ) (level high : ℕ) (rs : List Region) (region : Region)
      → region.start ≡ region_at w s xs st → region.start + region.size ≡ high
      → HasBytes bytes st.pos (region_piece w s xs st)
      → AreGapsZero bytes rs st.pos (state_after_all w xs st).pos
      → AreGapsZero bytes (rs ++ region ∷ []) st.pos high
  region_gaps xs st bytes level high rs region at_start at_end p f =
      let t = region_at w s xs st in
      let low = (state_after_all w xs st).pos in
      let gap = zeros (t - low) in
      let up = region_up xs st in
      let zero_gap = stands_left bytes low gap (owns w xs st t) (gap_stands xs st bytes p) in
      gaps_join bytes rs (region ∷ []) st.pos low high f
      (λ i a b. ⊎_elim (λ l. inr (zero_stands bytes low (t - low) i zero_gap a (omega arith))) (λ g. inl (inl (g, omega arith))) (cases_lt i region.start))

  region_ascends : (xs : List A) (st : State) (high : ℕ) (rs : List Region) (region : Region)
      → region.start ≡ region_at w s xs st → region.align ≡ align_of s → region.start + region.size ≡ high
      → Ascends st.pos (state_after_all w xs st).pos rs
      → Ascends st.pos high (rs ++ region ∷ [])
  unfolding Ascends
  region_ascends xs st high rs region at_start same_align at_end f =
      let up = region_up xs st in
      let at_end_of = state_after_all_pos xs st in
      let a : region.start % region.align ≡ 0 = ap₂ (λ x y. x % y) at_start same_align ∙ starts_aligned s (state_after_all w xs st).pos in
      ascends_join st.pos (state_after_all w xs st).pos high rs (region ∷ []) f (record { after = omega arith; aligned = a; inside = omega arith }, tt) (omega arith) (omega arith)

  pub slice_canonical :
      (xs : List A) (each : EachSpells fit s knows w xs) (st : State) (names : Names) (keys : Keys) (bytes : List ℕ) (level : ℕ) (inside : List OpenShared)
      → knows names
      → all_suit w fit keys xs
      → AreKeyedBy keys st.met
      → IsConsistent st
      → AllFrom (state_after_all w xs st).pos inside
      → region_fits w s xs st
      → HasBytes bytes st.pos (region_piece w s xs st)
      → CanonicalPart fit names bytes level inside (visits_of st.met) (visits_of (state_after_all w xs st).met) (behind (region_at w s xs st) (slice s) (length xs)) (group (values w xs st)) st.pos (st.pos + length (region_piece w s xs st))
  unfolding made pointee_content
  slice_canonical xs each st names keys bytes level inside k n known state over f p =
      let t = region_at w s xs st in
      let h = region_canonical xs each st names keys bytes (suc level) inside k n known state over f p in
      let region : Region = record { start = t; size = length xs * size_of s; align = align_of s; level = level } in
      let high : t + length xs * size_of s ≡ st.pos + length (region_piece w s xs st) = sym (region_end xs each st f) in
      record {
        regions = h.regions ++ region ∷ [];
        reads = record {
          holds = holds_claimed refl tt h.hold refl refl;
          canonical = (
            clean_by names bytes (behind t (slice s) (length xs)) (claimed _ whole _) refl (λ i o. inr (inl (elements_own (length xs) t s i o))) tt,
            tt,
            h.canonical,
            sym (ap (λ z. align_up z (align_of s)) h.ends),
          );
          ends = high;
        };
        ascends = region_ascends xs st _ h.regions region refl refl high h.ascends;
        gaps = region_gaps xs st bytes level _ h.regions region refl high p h.gaps;
      }

  -- a pointer to one value claims it
  pub boxed_canonical :
      (x : A) (one : SpellsAt fit s knows w x) (st : State) (names : Names) (keys : Keys) (bytes : List ℕ) (level : ℕ) (inside : List OpenShared)
      → knows names
      → w.suits fit keys x
      → AreKeyedBy keys st.met
      → IsConsistent st
      → AllFrom (state_after w x st).pos inside
      → region_fits w s (x ∷ []) st
      → HasBytes bytes st.pos (region_piece w s (x ∷ []) st)
      → CanonicalPart fit names bytes level inside (visits_of st.met) (visits_of (w.met x st)) (behind (region_at w s (x ∷ []) st) (sized s) 1) (w.value x st) st.pos (st.pos + length (region_piece w s (x ∷ []) st))
  unfolding made pointee_content elements
  boxed_canonical x one st names keys bytes level inside k n known state over f p =
      let t = region_at w s (x ∷ []) st in
      let h = region_canonical (x ∷ []) (one, tt) st names keys bytes (suc level) inside k (n, tt) known state over f p in
      let region : Region = record { start = t; size = size_of s; align = align_of s; level = level } in
      let high : t + size_of s ≡ st.pos + length (region_piece w s (x ∷ []) st) = omega (arith, region_end (x ∷ []) (one, tt) st f) in
      record {
        regions = h.regions ++ region ∷ [];
        reads = record {
          holds = holds_claimed refl tt h.hold refl refl;
          canonical = (
            clean_by names bytes (behind t (sized s) 1) (claimed _ same _) refl (λ i o. inr (inl (inl o))) tt,
            tt,
            h.canonical,
            sym (ap (λ z. align_up z (align_of s)) h.ends),
          );
          ends = high;
        };
        ascends = region_ascends (x ∷ []) st _ h.regions region refl refl high h.ascends;
        gaps = region_gaps (x ∷ []) st bytes level _ h.regions region refl high p h.gaps;
      }
