-- What writing a shared text does, by whether it was seen before.
use Rattle.std.proofs.Common.{◌≡◌, ℕ, ◌+◌, ◌^◌, ◌≤◌, ◌<◌, ◌==◌, cond, Bool, true, false, List, [], ◌∷◌, ◌++◌, length, refl, sym, ap, ap₂, subst, ◌∙◌, inl, inr, Ok, Err, Option, Some, None, append-nil, add-zero, eqb-true}
use Rattle.std.proofs.lemmas.Bool.{eqb-false}
use Rattle.std.specs.Prelude.{Result, IsUtf8}
use Rattle.archive_shape_layout.specs.Shape.Pointee.{str}
use Rattle.archive_shape_layout.specs.Value.Value.{string}
use Rattle.archive_shape_layout.specs.Holds.{Visit}
use Rattle.archive_shape.specs.Bytes.{zeros}
use Rattle.archive_shape_layout.specs.Writing.{WriterMembers}
use Rattle.archive_shape_layout.specs.Progress.{IsSet}
use Rattle.archive_shape_layout.specs.Progress.Progress.{unmet, ended}
use Rattle.archive_shape_layout.specs.declared.error.Error.{Error}
use Rattle.archive_shape_layout.specs.declared.error.Error.TheVariants.{PositionTooLarge}
use Rattle.archive_forms_laws.specs.State.{State, Met, advanced, visit_of_key, IsNoneOf}
use Rattle.archive_forms_laws.specs.Shared.{shared_padding, shared_piece, shared_resolver, shared_met, shared_fits, shared_refused, first_piece}
use Rattle.archive_forms_laws.specs.Texts.{boxed_text_spelling}
use Rattle.archive_forms_laws.specs.Serializing.{IsAt, LaysData, of_data, progress, progress_by, is_begun}
use Rattle.archive_forms_laws.proofs.Progress.{unmet_key, ended_key}
use Rattle.archive_forms_writing.proofs.Laying.{Wrote, Stops, Fails, wrote_both, stopped_first, stopped_after, as_data, fails_as_data}
use Rattle.cabinet_documents.specs.SharedKeys.{key_of_text}

module _ {W : Type 0} (m : WriterMembers W) (t : List ℕ) where
  -- what a call promises, by what was visited under the text's number
  abbrev Promised : State → Option Visit → W → W → Result ℕ Error → Type 0
  Promised st o old new result =
      LaysData m old new (shared_piece str length key_of_text boxed_text_spelling t st o)
      (λ r. (r ≡ shared_resolver str length key_of_text boxed_text_spelling t st o) × shared_fits str length key_of_text boxed_text_spelling t st o
      × IsAt m.pos m.known new (advanced (length (shared_piece str length key_of_text boxed_text_spelling t st o)) (shared_met str length key_of_text boxed_text_spelling t st o) st))
      (shared_refused str length key_of_text boxed_text_spelling t st o) result

  -- the text is kept at the position of the next byte, and nothing was written
  pub record IsKept (old new : W) : Type 0 where
    pub contents : m.contents new ≡ m.contents old
    pub pos : m.pos new ≡ m.pos old
    pub failures : m.failures new ≡ m.failures old
    pub set : IsSet (m.known old) (m.known new) (key_of_text t) (ended (m.pos old))

  nothing_wrote : {old new : W} → IsKept old new → Wrote (of_data m) old new []
  nothing_wrote {old} u = record { gains = λ t. u.contents ∙ sym (append-nil (m.contents old)); moves = u.pos ∙ sym (add-zero (m.pos old)); is_quiet = u.failures; keeps = λ key. refl }

  -- a text that was written before
  pub found : (old : W) (st : State) → IsAt m.pos m.known old st → (pos : ℕ) → m.known old (key_of_text t) ≡ ended pos → Promised st (visit_of_key st.met (key_of_text t)) old old (Ok pos)
  found old st at pos is =
      let there = ended_key st (key_of_text t) pos (sym (at.knows (key_of_text t)) ∙ is) in
      let none : Wrote (of_data m) old old [] = record { gains = λ t. sym (append-nil (m.contents old)); moves = sym (add-zero (m.pos old)); is_quiet = refl; keeps = λ key. refl } in
      subst (λ o. Promised st o old old (Ok pos)) (sym there.1) (none, (sym there.2, tt, record { stands = at.stands ∙ sym (add-zero st.pos); knows = at.knows }))

  module _ (old : W) (st : State) (at : IsAt m.pos m.known old st) (is_unmet : m.known old (key_of_text t) ≡ unmet) (mid : W) (u : IsKept old mid) where
    is_new : (visit_of_key st.met (key_of_text t) ≡ None) × IsNoneOf (key_of_text t) st.begun
    is_new = unmet_key st (key_of_text t) (sym (at.knows (key_of_text t)) ∙ is_unmet)

    abbrev refused : Error → Type 0
    refused e = shared_refused str length key_of_text boxed_text_spelling t st None e

    abbrev piece : List ℕ
    piece = first_piece str length key_of_text boxed_text_spelling t st

    abbrev met : Met
    met = record { key = key_of_text t; visit = record { pos = st.pos; pointee = str; len = length t; value = string t } }

    abbrev then : State
    then = record { pos = st.pos; met = met ∷ st.met; begun = st.begun }

    pub at_then : IsAt m.pos m.known mid then
    at_then = record { stands = u.pos ∙ at.stands; knows = knows }
      where
        knows : (key : ℕ) → m.known mid key ≡ progress then key
        knows key = tested (key_of_text t == key) refl
          where
            tested : (b : Bool) → (key_of_text t == key) ≡ b → m.known mid key ≡ progress_by (cond b (Some met.visit) (visit_of_key st.met key)) (is_begun st.begun key)
            tested true same = let is : key_of_text t ≡ key = eqb-true (key_of_text t) key same in subst (λ n. m.known mid n ≡ ended st.pos) is (u.set.here ∙ ap ended at.stands)
            tested false other = u.set.elsewhere key (λ e. eqb-false (key_of_text t) key other (sym e)) ∙ at.knows key

    pub stopped_in_text : (new : W) (e : Error) → Stops (of_data m) mid new t (λ e. (2 ^ 32 ≤ st.pos) × (e ≡ PositionTooLarge)) e → Promised st (visit_of_key st.met (key_of_text t)) old new (Err e)
    stopped_in_text new e h =
        let limit : Error → Type 0 = λ e. (2 ^ 32 ≤ st.pos) × (e ≡ PositionTooLarge) in
        let pad = zeros (shared_padding st.pos (st.pos + length t)) in
        subst (λ o. Promised st o old new (Err e)) (sym is_new.0)
        (stopped_after (of_data m) piece refused refused refl (λ r. r) (nothing_wrote u) (stopped_first (of_data m) pad piece limit refused refl (λ r. inr (inl (is_new.1, r))) h))

    module _ (mid1 : W) (pos : ℕ) (h : Wrote (of_data m) mid mid1 t) (is : pos ≡ st.pos) (after : IsAt m.pos m.known mid1 (advanced (length t) (met ∷ st.met) then)) (new : W) where
      abbrev pad : List ℕ
      pad = zeros (shared_padding pos (m.pos mid1))

      piece_is : piece ≡ t ++ pad
      piece_is = ap₂ (λ start end. t ++ zeros (shared_padding start end)) (sym is) (sym after.stands)

      text_wrote : Wrote (of_data m) old mid1 t
      text_wrote = wrote_both (of_data m) t refl (nothing_wrote u) h

      pub stopped_in_pad : (e : Error) → Fails m mid1 new pad e → Promised st (visit_of_key st.met (key_of_text t)) old new (Err e)
      stopped_in_pad e g =
          let none : Error → Type 0 = λ _. ⊥ in
          subst (λ o. Promised st o old new (Err e)) (sym is_new.0) (stopped_after (of_data m) piece none refused piece_is (λ r. absurd r) text_wrote (inl (fails_as_data m g)))

      pub wrote : IsUtf8 t × (st.pos < 2 ^ 32) → Wrote m mid1 new pad → Promised st (visit_of_key st.met (key_of_text t)) old new (Ok pos)
      wrote fits g =
          let all = wrote_both (of_data m) piece piece_is text_wrote (as_data m g) in
          subst (λ o. Promised st o old new (Ok pos)) (sym is_new.0)
          (all, (is, (is_new.1, fits, is_new.0), record { stands = all.moves ∙ ap (λ n. n + length piece) at.stands; knows = λ key. g.keeps key ∙ after.knows key }))
