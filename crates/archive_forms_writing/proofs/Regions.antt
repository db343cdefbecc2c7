-- A region of elements that is written after their data.
use Rattle.std.proofs.Common.{◌≡◌, ℕ, ◌+◌, ◌-◌, ◌^◌, ◌≤◌, ◌<◌, List, [], ◌∷◌, ◌++◌, refl, sym, ap, subst, ◌∙◌, arith, length, append-nil, append_assoc, inl, inr, Ok, Err, ◌⊎◌}
use Rattle.std.specs.Prelude.{⊤, Result}
use Rattle.std.proofs.lemmas.List.{length-replicate}
use Rattle.archive_shape_layout.specs.Bytes.{align_up}
use Rattle.archive_shape_layout.specs.Shape.{Shape, align_of}
use Rattle.archive_shape_layout.proofs.Framed.{le_align_up}
use Rattle.archive_shape_canonical.specs.FirstFit.{first_fit}
use Rattle.archive_shape.specs.Bytes.{zeros}
use Rattle.archive_shape_layout.specs.Writing.{WriterMembers}
use Rattle.archive_shape_layout.specs.declared.error.Error.{Error}
use Rattle.archive_shape_layout.specs.declared.error.Error.TheVariants.{PositionTooLarge}
use Rattle.archive_forms_laws.specs.State.{State, advanced}
use Rattle.archive_forms_laws.specs.Spelling.{Spelling, state_after}
use Rattle.archive_forms_laws.specs.Regions.{state_after_all, pieces, owns, pieces_fit, pieces_refused, placed_fits, placed_refused, owns_fit, owns_refused, region_at, region_piece, region_fits, region_refused}
use Rattle.archive_forms_laws.specs.Serializing.{IsAt, LaysData, of_data, is_begun, progress_by}
use Rattle.archive_forms_laws.specs.State.{visit_of_key}
use Rattle.archive_forms_laws.proofs.Regions.{state_after_all_begun}
use Rattle.archive_forms_writing.specs.Behind.{LaysBehind}
use Rattle.archive_forms_writing.proofs.Laying.{Wrote, Fails, Stops, wrote_both, stopped_after, stopped_first, stopped_before, as_data, fails_as_data, stops_as_data}

module _ {A R W : Type 0} (w : Spelling A R) (sh : Shape) (s : WriterMembers W) (xs : List A) (old : W) (st : State) where
  -- zeros from the end of the data to the position of the elements
  abbrev pub gap : List ℕ
  gap = zeros (region_at w sh xs st - (state_after_all w xs st).pos)

  -- the data of all elements was written
  pub record Filled (mid : W) : Type 0 where
    pub wrote : Wrote (of_data s) old mid (pieces w xs st)
    pub is_at : IsAt s.pos s.known mid (state_after_all w xs st)

  -- and zeros after it
  pub record Padded (mid : W) : Type 0 where
    pub wrote : Wrote (of_data s) old mid (pieces w xs st ++ gap)
    pub at : s.pos mid ≡ region_at w sh xs st
    pub known : (key : ℕ) → s.known mid key ≡ progress_by (visit_of_key (state_after_all w xs st).met key) (is_begun st.begun key)

  gap_is : (mid : W) (align : ℕ) → align ≡ align_of sh → Filled mid → align_up (s.pos mid) align - s.pos mid ≡ region_at w sh xs st - (state_after_all w xs st).pos
  gap_is mid align e h = ap (λ a. align_up (s.pos mid) a - s.pos mid) e ∙ ap (λ p. align_up p (align_of sh) - p) h.is_at.stands

  pub padded : (mid new : W) (align : ℕ) → align ≡ align_of sh → Filled mid → Wrote s mid new (zeros (align_up (s.pos mid) align - s.pos mid)) → Padded new
  padded mid new align e h g =
      let n = (state_after_all w xs st).pos in
      let t = region_at w sh xs st in
      let P : List ℕ → Type 0 = λ l. Wrote s mid new l in
      let k : Wrote s mid new gap = subst P (ap zeros (gap_is mid align e h)) g in
      let up : n ≤ t = le_align_up n (align_of sh) in
      let filled : length gap ≡ t - n = length-replicate _ _ in
      let moves = k.moves in
      let before = h.is_at.stands in
      record {
        wrote = wrote_both (of_data s) (pieces w xs st ++ gap) refl h.wrote (as_data s k);
        at = omega arith;
        known = λ key. k.keeps key ∙ h.is_at.knows key ∙ ap (λ b. progress_by (visit_of_key (state_after_all w xs st).met key) (is_begun b key)) (state_after_all_begun (first_fit (λ _. 0)) sh (λ _. ⊤) w xs st);
      }

  region_is : region_piece w sh xs st ≡ (pieces w xs st ++ gap) ++ owns w xs st (region_at w sh xs st)
  region_is = sym (append_assoc (pieces w xs st) gap (owns w xs st (region_at w sh xs st)))

  -- ---- calls that stop in it

  pub region_data_stopped : (new : W) (e : Error) → Stops (of_data s) old new (pieces w xs st) (pieces_refused w xs st) e → Stops (of_data s) old new (region_piece w sh xs st) (region_refused w sh xs st) e
  region_data_stopped new e h = stopped_first (of_data s) (gap ++ owns w xs st (region_at w sh xs st)) (region_piece w sh xs st) (pieces_refused w xs st) (region_refused w sh xs st) refl (λ r. inl r) h

  pub region_gap_stopped : (mid new : W) (align : ℕ) (e : Error) → align ≡ align_of sh → Filled mid
      → Fails s mid new (zeros (align_up (s.pos mid) align - s.pos mid)) e
      → Stops (of_data s) old new (region_piece w sh xs st) (region_refused w sh xs st) e
  region_gap_stopped mid new align e is h g =
      let none : Error → Type 0 = λ _. ⊥ in
      let P : List ℕ → Type 0 = λ l. Fails s mid new l e in
      let own = owns w xs st (region_at w sh xs st) in
      let k : Stops (of_data s) mid new (gap ++ own) none e = stopped_first (of_data s) own (gap ++ own) none none refl (λ r. r) (inl (fails_as_data s (subst P (ap zeros (gap_is mid align is h)) g))) in
      stopped_after (of_data s) (region_piece w sh xs st) none (region_refused w sh xs st) refl (λ r. absurd r) h.wrote k

  -- the position of the elements
  pub region_starts : (mid : W) (to align : ℕ) → align ≡ align_of sh → to ≡ align_up (s.pos mid) align → Filled mid → to ≡ region_at w sh xs st
  region_starts mid to align e at h = at ∙ ap (align_up (s.pos mid)) e ∙ ap (λ p. align_up p (align_of sh)) h.is_at.stands

  pub region_far : (mid : W) (to : ℕ) → to ≡ region_at w sh xs st → 2 ^ 32 ≤ to → Padded mid → Stops (of_data s) old mid (region_piece w sh xs st) (region_refused w sh xs st) PositionTooLarge
  region_far mid to e far h =
      let t = region_at w sh xs st in
      let far_refused : Error → Type 0 = λ d. (2 ^ 32 ≤ t) × (d ≡ PositionTooLarge) in
      let high : 2 ^ 32 ≤ t = omega arith in
      stopped_after (of_data s) (region_piece w sh xs st) far_refused (region_refused w sh xs st) region_is (λ r. inr (inl r)) h.wrote
      (stopped_before (of_data s) mid (owns w xs st t) far_refused PositionTooLarge (inr (high, refl)))

  pub region_owns_stopped : (mid new : W) (e : Error) → Padded mid → Stops s mid new (owns w xs st (s.pos mid)) (owns_refused w sh xs st (s.pos mid)) e
      → Stops (of_data s) old new (region_piece w sh xs st) (region_refused w sh xs st) e
  region_owns_stopped mid new e h k =
      let t = region_at w sh xs st in
      let P : ℕ → Type 0 = λ n. Stops s mid new (owns w xs st n) (owns_refused w sh xs st n) e in
      stopped_after (of_data s) (region_piece w sh xs st) (owns_refused w sh xs st t) (region_refused w sh xs st) region_is (λ r. inr (inr r)) h.wrote (stops_as_data s (subst P h.at k))

  -- ---- all of it

  pub record RegionWritten (new : W) (to : ℕ) : Type 0 where
    pub wrote : Wrote (of_data s) old new (region_piece w sh xs st)
    pub to_is : to ≡ region_at w sh xs st
    pub fits : region_fits w sh xs st
    pub is_at : IsAt s.pos s.known new (advanced (length (region_piece w sh xs st)) (state_after_all w xs st).met st)

  pub region_written : (mid new : W) (to : ℕ) → s.pos old ≡ st.pos → to ≡ region_at w sh xs st → to < 2 ^ 32 → Padded mid → pieces_fit w xs st
      → Wrote s mid new (owns w xs st (s.pos mid)) → owns_fit w sh xs st (s.pos mid) → RegionWritten new to
  region_written mid new to from e low h f g o =
      let t = region_at w sh xs st in
      let P : ℕ → Type 0 = λ n. Wrote s mid new (owns w xs st n) in
      let O : ℕ → Type 0 = λ n. owns_fit w sh xs st n in
      let at : s.pos mid ≡ t = h.at in
      let small : t < 2 ^ 32 = omega arith in
      let wrote : Wrote (of_data s) old new (region_piece w sh xs st) = wrote_both (of_data s) (region_piece w sh xs st) region_is h.wrote (as_data s (subst P at g)) in
      record {
        wrote = wrote;
        to_is = e;
        fits = (f, small, subst O at o);
        is_at = record { stands = wrote.moves ∙ ap (λ p. p + length (region_piece w sh xs st)) from; knows = λ key. g.keeps key ∙ h.known key };
      }

-- ---- own bytes that were written after all data

module _ {A R W : Type 0} (w : Spelling A R) (sh : Shape) (s : WriterMembers W) (xs : List A) (old : W) (st : State) where
  pub region_behind : (mid new : W) (result : Result ℕ Error) → s.pos old ≡ st.pos → Filled w sh s xs old st mid → pieces_fit w xs st
      → LaysBehind sh w s xs st mid new (s.pos mid) result
      → LaysData s old new (region_piece w sh xs st) (λ to. (to ≡ region_at w sh xs st) × region_fits w sh xs st × IsAt s.pos s.known new (advanced (length (region_piece w sh xs st)) (state_after_all w xs st).met st))
      (region_refused w sh xs st) result
  region_behind mid new (Ok to) from h f g =
      let P : ℕ → Type 0 = λ n. LaysBehind sh w s xs st mid new n (Ok to) in
      let done = subst P h.is_at.stands g in
      let wrote : Wrote (of_data s) old new (region_piece w sh xs st) = wrote_both (of_data s) (region_piece w sh xs st) refl h.wrote (as_data s done.0) in
      let begun = state_after_all_begun (first_fit (λ _. 0)) sh (λ _. ⊤) w xs st in (
        wrote,
        (
          done.1.0,
          (f, done.1.1, done.1.2),
          record {
            stands = wrote.moves ∙ ap (λ p. p + length (region_piece w sh xs st)) from;
            knows = λ key. done.0.keeps key ∙ h.is_at.knows key ∙ ap (λ b. progress_by (visit_of_key (state_after_all w xs st).met key) (is_begun b key)) begun;
          },
        ),
      )
  region_behind mid new (Err e) from h f g =
      let t = region_at w sh xs st in
      let P : ℕ → Type 0 = λ n. LaysBehind sh w s xs st mid new n (Err e) in
      let refused : Error → Type 0 = λ d. ((2 ^ 32 ≤ t) × (d ≡ PositionTooLarge)) ⊎ owns_refused w sh xs st t d in
      stopped_after (of_data s) (region_piece w sh xs st) refused (region_refused w sh xs st) refl (λ r. inr r) h.wrote (stops_as_data s (subst P h.is_at.stands g))

-- ---- one element

module _ {A R W : Type 0} (w : Spelling A R) (sh : Shape) (s : WriterMembers W) (x : A) (st : State) where
  pub one_filled : (old new : W) → Wrote (of_data s) old new (w.piece x st) → IsAt s.pos s.known new (state_after w x st) → Filled w sh s (x ∷ []) old st new
  one_filled old new h is = record { wrote = (let P : List ℕ → Type 0 = λ l. Wrote (of_data s) old new l in subst P (sym (append-nil (w.piece x st))) h); is_at = is }

  pub one_stopped : (old new : W) (e : Error) → Stops (of_data s) old new (w.piece x st) (w.piece_refused x st) e → Stops (of_data s) old new (pieces w (x ∷ []) st) (pieces_refused w (x ∷ []) st) e
  one_stopped old new e h = stopped_first (of_data s) [] (pieces w (x ∷ []) st) (w.piece_refused x st) (pieces_refused w (x ∷ []) st) refl (λ r. inl r) h

  pub one_own_wrote : (mid new : W) (r : R) → r ≡ w.resolver x st → Wrote s mid new (w.own x r (s.pos mid)) → placed_fits w sh x r (s.pos mid)
      → Wrote s mid new (owns w (x ∷ []) st (s.pos mid)) × owns_fit w sh (x ∷ []) st (s.pos mid)
  one_own_wrote mid new r e h f =
      let P : R → Type 0 = λ k. Wrote s mid new (w.own x k (s.pos mid)) in
      let F : R → Type 0 = λ k. placed_fits w sh x k (s.pos mid) in
      let Q : List ℕ → Type 0 = λ l. Wrote s mid new l in
      (subst Q (sym (append-nil (w.own x (w.resolver x st) (s.pos mid)))) (subst P e h), (subst F e f, tt))

  pub one_own_stopped : (mid new : W) (r : R) (d : Error) → r ≡ w.resolver x st → Stops s mid new (w.own x r (s.pos mid)) (placed_refused w sh x r (s.pos mid)) d
      → Stops s mid new (owns w (x ∷ []) st (s.pos mid)) (owns_refused w sh (x ∷ []) st (s.pos mid)) d
  one_own_stopped mid new r d e h =
      let P : R → Type 0 = λ k. Stops s mid new (w.own x k (s.pos mid)) (placed_refused w sh x k (s.pos mid)) d in
      stopped_first s [] (owns w (x ∷ []) st (s.pos mid)) (placed_refused w sh x (w.resolver x st) (s.pos mid)) (owns_refused w sh (x ∷ []) st (s.pos mid)) refl (λ r. inl r) (subst P e h)
