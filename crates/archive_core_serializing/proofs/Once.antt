-- What a serializer does for a shared value, by what is known of its key.
use Rattle.std.proofs.Common.{◌≡◌, ℕ, ◌+◌, ◌==◌, cond, true, List, [], ◌∷◌, ◌++◌, length, refl, sym, ap, ap₂, subst, ◌∙◌, inl, inr, Ok, Err, Option, Some, None, append-nil, add-zero, eq-eqb}
use Rattle.std.specs.Prelude.{Result}
use Rattle.archive_shape_layout.specs.Shape.{Pointee}
use Rattle.archive_shape_layout.specs.Holds.{Visit}
use Rattle.archive_shape.specs.Bytes.{zeros}
use Rattle.archive_shape_layout.specs.Writing.{WriterMembers}
use Rattle.archive_shape_layout.specs.Progress.{Progress, IsSet, Starts, Finishes}
use Rattle.archive_shape_layout.specs.Progress.Progress.{unmet, begun, ended}
use Rattle.archive_shape_layout.specs.declared.error.Error.{Error}
use Rattle.archive_shape_layout.specs.declared.error.Error.TheVariants.{CyclicSharedPointer, AlreadyFinished, NotStarted}
use Rattle.archive_forms_laws.specs.State.{State, Met, advanced, with_begun, visit_of_key, IsNoneOf}
use Rattle.archive_forms_laws.specs.Spelling.{Spelling, state_after}
use Rattle.archive_forms_laws.specs.Shared.{shared_padding, shared_piece, shared_resolver, shared_met, shared_fits, shared_refused, shared_spelling, first_at, first_piece, met_inside}
use Rattle.archive_forms_laws.specs.Serializing.{IsAt, LaysData, of_data, progress, progress_by, is_begun}
use Rattle.archive_forms_laws.proofs.Progress.{unmet_key, begun_key, ended_key, begins_in_state, ends_in_state, is_finished}
use Rattle.archive_forms_writing.proofs.Laying.{Wrote, Stops, wrote_both, stopped_before, stopped_first, stopped_after, as_data, fails_as_data, Fails}

module _ {A W : Type 0} (q : Pointee) (len : A → ℕ) (k : ℕ) (w : Spelling A ℕ) (m : WriterMembers W) (x : A) where
  -- the contract of a call, by what was visited under the key
  abbrev Promised : State → Option Visit → W → W → Result ℕ Error → Type 0
  Promised st o old new result =
      LaysData m old new (shared_piece q len (λ a. k) w x st o)
      (λ r. (r ≡ shared_resolver q len (λ a. k) w x st o) × shared_fits q len (λ a. k) w x st o × IsAt m.pos m.known new (advanced (length (shared_piece q len (λ a. k) w x st o)) (shared_met q len (λ a. k) w x st o) st))
      (shared_refused q len (λ a. k) w x st o) result

  -- nothing was written
  pub record Untouched (old new : W) : Type 0 where
    pub contents : m.contents new ≡ m.contents old
    pub pos : m.pos new ≡ m.pos old
    pub failures : m.failures new ≡ m.failures old

  nothing_wrote : {old new : W} → Untouched old new → Wrote (of_data m) old new []
  nothing_wrote {old} u = record { gains = λ t. u.contents ∙ sym (append-nil (m.contents old)); moves = u.pos ∙ sym (add-zero (m.pos old)); is_quiet = u.failures; keeps = λ key. refl }

  -- a call stopped after that
  stopped_behind : {old mid new : W} {piece : List ℕ} (P Q : Error → Type 0) {e : Error} → (P e → Q e) → Untouched old mid → Stops (of_data m) mid new piece P e → Stops (of_data m) old new piece Q e
  stopped_behind {piece = piece} P Q f u h = stopped_after (of_data m) piece P Q refl f (nothing_wrote u) h

  module _ (old mid : W) (u : Untouched old mid) (st : State) (at : IsAt m.pos m.known old st) where
    -- ---- a key under which a value was written, or is being written

    pub found : (pos : ℕ) → Starts (m.known old) (m.known mid) k (ended pos) → Promised st (visit_of_key st.met k) old mid (Ok pos)
    found pos starts =
        let there = ended_key st k pos (sym (at.knows k) ∙ starts.is_found) in
        subst (λ o. Promised st o old mid (Ok pos)) (sym there.1)
        (nothing_wrote u, (sym there.2, tt, record { stands = u.pos ∙ at.stands ∙ sym (add-zero st.pos); knows = λ key. starts.begins key ∙ at.knows key }))

    pub pending : Starts (m.known old) (m.known mid) k begun → Promised st (visit_of_key st.met k) old mid (Err CyclicSharedPointer)
    pending starts =
        let there = begun_key st k (sym (at.knows k) ∙ starts.is_found) in
        let refused = shared_refused q len (λ a. k) w x st None in
        subst (λ o. Promised st o old mid (Err CyclicSharedPointer)) (sym there.0)
        (stopped_behind refused refused (λ r. r) u (stopped_before (of_data m) mid (first_piece q len (λ a. k) w x st) refused CyclicSharedPointer (inr (inl (there.1, refl)))))

    -- ---- a new key

    module _ (starts : Starts (m.known old) (m.known mid) k unmet) where
      abbrev then : State
      then = with_begun k st

      is_new : (visit_of_key st.met k ≡ None) × IsNoneOf k st.begun
      is_new = unmet_key st k (sym (at.knows k) ∙ starts.is_found)

      pub at_then : IsAt m.pos m.known mid then
      at_then = record { stands = u.pos ∙ at.stands; knows = begins_in_state (m.known old) (m.known mid) st k at.knows starts }

      abbrev own_data : List ℕ
      own_data = w.piece x then

      abbrev pad : List ℕ
      pad = zeros (shared_padding (w.resolver x then) (st.pos + length own_data))

      -- a call stopped in its data
      pub stopped_in_data : (new : W) (e : Error) → Stops (of_data m) mid new own_data (w.piece_refused x then) e → Promised st (visit_of_key st.met k) old new (Err e)
      stopped_in_data new e h =
          let refused = w.piece_refused x then in
          subst (λ o. Promised st o old new (Err e)) (sym is_new.0)
          (stopped_behind refused (shared_refused q len (λ a. k) w x st None) (λ r. inr (inl (is_new.1, r))) u (stopped_first (of_data m) pad (own_data ++ pad) refused refused refl (λ r. r) h))

      -- the value was written, and what follows it
      pub record Filled (new : W) : Type 0 where
        pub wrote : Wrote (of_data m) old new (own_data ++ pad)
        pub known : (key : ℕ) → m.known new key ≡ progress (state_after w x then) key

      module _ (mid1 : W) (pos : ℕ) (h : Wrote (of_data m) mid mid1 own_data) (is : pos ≡ w.resolver x then) (after : IsAt m.pos m.known mid1 (state_after w x then)) where
        pad_is : zeros (shared_padding pos (m.pos mid1)) ≡ pad
        pad_is = ap₂ (λ t e. zeros (shared_padding t e)) is after.stands

        data_wrote : Wrote (of_data m) old mid1 own_data
        data_wrote = wrote_both (of_data m) own_data refl (nothing_wrote u) h

        pub filled : (new : W) → Wrote m mid1 new (zeros (shared_padding pos (m.pos mid1))) → Filled new
        filled new g = record {
          wrote = wrote_both (of_data m) (own_data ++ pad) (ap (λ l. own_data ++ l) (sym pad_is)) data_wrote (as_data m g);
          known = λ key. g.keeps key ∙ after.knows key;
        }

        -- a call stopped in what follows it
        pub stopped_in_pad : (new : W) (e : Error) → Fails m mid1 new (zeros (shared_padding pos (m.pos mid1))) e → Promised st (visit_of_key st.met k) old new (Err e)
        stopped_in_pad new e g =
            let none : Error → Type 0 = λ _. ⊥ in
            subst (λ o. Promised st o old new (Err e)) (sym is_new.0)
            (stopped_after (of_data m) (own_data ++ pad) none (shared_refused q len (λ a. k) w x st None) (ap (λ l. own_data ++ l) (sym pad_is)) (λ r. absurd r) data_wrote (inl (fails_as_data m g)))

      -- ---- the key ends

      module _ (mid2 new : W) (pos : ℕ) (is : pos ≡ w.resolver x then) (fits : w.piece_fits x then) (f : Filled mid2) (v : Untouched mid2 new) where
        abbrev met : Met
        met = record { key = k; visit = record { pos = w.resolver x then; pointee = q; len = len x; value = w.value x then } }

        known_so : (o : Option Visit) → met_inside q len (λ a. k) w x st ≡ o → m.known mid2 k ≡ progress_by o true
        known_so o e = f.known k ∙ ap₂ (λ z b. progress_by z (cond b true (is_begun st.begun k))) e (eq-eqb k k refl)

        abbrev Ends : Result (Unit {0}) Error → Type 0
        Ends result = Finishes (m.known mid2) (m.known new) k pos result (m.known mid2 k)

        all_wrote : Wrote (of_data m) old new (own_data ++ pad)
        all_wrote = wrote_both (of_data m) (own_data ++ pad) (sym (append-nil (own_data ++ pad))) f.wrote (nothing_wrote v)

        ended_so : met_inside q len (λ a. k) w x st ≡ None → IsSet (m.known mid2) (m.known new) k (ended pos) → Promised st None old new (Ok pos)
        ended_so none set =
            let wrote = all_wrote in
            let there : IsSet (m.known mid2) (m.known new) k (ended (w.resolver x then)) = subst (λ n. IsSet (m.known mid2) (m.known new) k (ended n)) is set in (
              wrote,
              (
                is,
                (is_new.1, fits, none),
                record {
                  stands = wrote.moves ∙ ap (λ n. n + length (own_data ++ pad)) at.stands;
                  knows = ends_in_state (m.known mid2) (m.known new) (w.met x then) st.begun (state_after w x then).pos (st.pos + length (own_data ++ pad)) met f.known there;
                },
              ),
            )

        -- it was visited inside the value
        met_so : (e : Error) (y : Visit) → met_inside q len (λ a. k) w x st ≡ Some y → e ≡ AlreadyFinished → Promised st None old new (Err e)
        met_so e y some is_ended =
            let refused = shared_refused q len (λ a. k) w x st None in
            subst (λ l. Stops (of_data m) old new l refused e) (append-nil (own_data ++ pad))
            (stopped_after (of_data m) ((own_data ++ pad) ++ []) refused refused refl (λ r. r) all_wrote
            (stopped_before (of_data m) new [] refused e (inr (inr (inr ((λ none. let both : ◌≡◌ {A = Option Visit} None (Some y) = sym none ∙ some in absurd (cc)), is_ended))))))

        abbrev answered : Result (Unit {0}) Error → Result ℕ Error
        answered (Ok r) = Ok pos
        answered (Err e) = Err e

        ends_by : (o : Option Visit) (result : Result (Unit {0}) Error) → met_inside q len (λ a. k) w x st ≡ o → Finishes (m.known mid2) (m.known new) k pos result (progress_by o true)
            → Promised st None old new (answered result)
        ends_by None (Ok r) e h = ended_so e h.1
        ends_by None (Err d) e h = absurd (let no : ◌≡◌ {A = Result (Unit {0}) Error} (Err d) (Ok tt) = h.0 in cc)
        ends_by (Some y) (Ok r) e h = absurd (let no : ◌≡◌ {A = Result (Unit {0}) Error} (Ok r) (Err AlreadyFinished) = h.0 in cc)
        ends_by (Some y) (Err d) e h = met_so d y e (let same : ◌≡◌ {A = Result (Unit {0}) Error} (Err d) (Err AlreadyFinished) = h.0 in cc)

        -- finishing the key ends it, or is refused
        pub finished : (result : Result (Unit {0}) Error) → Ends result → Promised st (visit_of_key st.met k) old new (answered result)
        finished result h =
            let o = met_inside q len (λ a. k) w x st in
            subst (λ z. Promised st z old new (answered result)) (sym is_new.0)
            (ends_by o result refl (subst (Finishes (m.known mid2) (m.known new) k pos result) (known_so o refl) h))
