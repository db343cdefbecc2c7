-- What starting and finishing a shared value do to the state.
use Rattle.std.proofs.Common.{◌≡◌, ℕ, ◌==◌, cond, Bool, true, false, List, [], ◌∷◌, refl, sym, subst, ap, ap₂, ◌∙◌, Option, Some, None, Ok, eq-eqb, eqb-true, inl, inr}
use Rattle.std.proofs.lemmas.Bool.{eqb-false}
use Rattle.std.specs.Prelude.{Result}
use Rattle.archive_shape_layout.specs.Holds.{Visit}
use Rattle.archive_shape_layout.specs.Progress.{Progress, IsSet, Starts, Finishes}
use Rattle.archive_shape_layout.specs.Progress.Progress.{unmet, begun, ended}
use Rattle.archive_shape_layout.specs.declared.error.Error.{Error}
use Rattle.archive_forms_laws.specs.State.{State, Met, visit_of_key, with_begun, IsNoneOf, IsOneOf}
use Rattle.archive_forms_laws.specs.Serializing.{progress, progress_by, is_begun, Knows}

none_of : (ks : List ℕ) (key : ℕ) → is_begun ks key ≡ false → IsNoneOf key ks
none_of [] key e = tt
none_of (k ∷ ks) key e = tested (k == key) refl e (λ f. none_of ks key f)
  where
    tested : (b : Bool) → (k == key) ≡ b → cond b true (is_begun ks key) ≡ false → (is_begun ks key ≡ false → IsNoneOf key ks) → IsNoneOf key (k ∷ ks)
    tested true t f later = absurd (cc)
    tested false t f later = (eqb-false k key t, later f)

one_of : (ks : List ℕ) (key : ℕ) → is_begun ks key ≡ true → IsOneOf key ks
one_of [] key e = absurd (cc)
one_of (k ∷ ks) key e = tested (k == key) refl e (λ f. one_of ks key f)
  where
    tested : (b : Bool) → (k == key) ≡ b → cond b true (is_begun ks key) ≡ true → (is_begun ks key ≡ true → IsOneOf key ks) → IsOneOf key (k ∷ ks)
    tested true t f later = inl (eqb-true k key t)
    tested false t f later = inr (later f)

-- under a key that was not seen nothing was written, and none is being written
pub unmet_key : (st : State) (key : ℕ) → progress st key ≡ unmet → (visit_of_key st.met key ≡ None) × IsNoneOf key st.begun
unmet_key st key e = tested (visit_of_key st.met key) (is_begun st.begun key) e refl refl
  where
    tested : (o : Option Visit) (b : Bool) → progress_by o b ≡ unmet → visit_of_key st.met key ≡ o → is_begun st.begun key ≡ b → (visit_of_key st.met key ≡ None) × IsNoneOf key st.begun
    tested (Some v) b e f g = absurd (cc)
    tested None true e f g = absurd (cc)
    tested None false e f g = (f, none_of st.begun key g)

-- under one that has begun nothing was written, and one is being written
pub begun_key : (st : State) (key : ℕ) → progress st key ≡ begun → (visit_of_key st.met key ≡ None) × IsOneOf key st.begun
begun_key st key e = tested (visit_of_key st.met key) (is_begun st.begun key) e refl refl
  where
    tested : (o : Option Visit) (b : Bool) → progress_by o b ≡ begun → visit_of_key st.met key ≡ o → is_begun st.begun key ≡ b → (visit_of_key st.met key ≡ None) × IsOneOf key st.begun
    tested (Some v) b e f g = absurd (cc)
    tested None true e f g = (f, one_of st.begun key g)
    tested None false e f g = absurd (cc)

-- under one that has ended one was written, at this position
pub ended_key : (st : State) (key pos : ℕ) → progress st key ≡ ended pos → (v : Visit) × (visit_of_key st.met key ≡ Some v) × (v.pos ≡ pos)
ended_key st key pos e = tested (visit_of_key st.met key) (is_begun st.begun key) e refl
  where
    tested : (o : Option Visit) (b : Bool) → progress_by o b ≡ ended pos → visit_of_key st.met key ≡ o → (v : Visit) × (visit_of_key st.met key ≡ Some v) × (v.pos ≡ pos)
    tested (Some v) b e f = (v, f, cc)
    tested None true e f = absurd (cc)
    tested None false e f = absurd (cc)

-- starting a key that was not seen begins it in the state
pub begins_in_state : (old new : ℕ → Progress ℕ) (st : State) (key : ℕ) → Knows old st → Starts old new key unmet → Knows new (with_begun key st)
begins_in_state old new st key h s k = tested (key == k) refl
  where
    is_new : progress st key ≡ unmet
    is_new = sym (h key) ∙ s.is_found

    none : visit_of_key st.met key ≡ None
    none = (unmet_key st key is_new).0

    tested : (b : Bool) → (key == k) ≡ b → new k ≡ progress_by (visit_of_key st.met k) (cond b true (is_begun st.begun k))
    tested true t =
        let same : key ≡ k = eqb-true key k t in
        let P : ℕ → Type 0 = λ n. new n ≡ progress_by (visit_of_key st.met n) true in
        subst P same (s.begins.here ∙ ap (λ o. progress_by o true) (sym none))
    tested false t = s.begins.elsewhere k (λ e. eqb-false key k t (sym e)) ∙ h k

-- finishing the key that has begun last makes its value one that was written
pub ends_in_state : (old new : ℕ → Progress ℕ) (met : List Met) (keys : List ℕ) (pos at : ℕ) (m : Met)
    → Knows old (record { pos = pos; met = met; begun = m.key ∷ keys })
    → IsSet old new m.key (ended m.visit.pos)
    → Knows new (record { pos = at; met = m ∷ met; begun = keys })
ends_in_state old new met keys pos at m h s k = tested (m.key == k) refl (h k)
  where
    tested : (b : Bool) → (m.key == k) ≡ b → old k ≡ progress_by (visit_of_key met k) (cond b true (is_begun keys k)) → new k ≡ progress_by (cond b (Some m.visit) (visit_of_key met k)) (is_begun keys k)
    tested true t f = let same : m.key ≡ k = eqb-true m.key k t in subst (λ n. new n ≡ ended m.visit.pos) same s.here
    tested false t f = s.elsewhere k (λ e. eqb-false m.key k t (sym e)) ∙ f

-- finishing the key that has begun last is not refused
pub is_finished : (old new : ℕ → Progress ℕ) (met : List Met) (keys : List ℕ) (pos : ℕ) (key to : ℕ) (result : Result (Unit {0}) Error)
    → visit_of_key met key ≡ None
    → Knows old (record { pos = pos; met = met; begun = key ∷ keys })
    → Finishes old new key to result (old key)
    → (result ≡ Ok tt) × IsSet old new key (ended to)
is_finished old new met keys pos key to result none h f =
    let has_begun : old key ≡ begun = h key ∙ ap₂ (λ o b. progress_by o (cond b true (is_begun keys key))) none (eq-eqb key key refl) in
    subst (λ p. Finishes old new key to result p) has_begun f
