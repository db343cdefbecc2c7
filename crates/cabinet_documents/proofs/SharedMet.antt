-- The shared values that a plan has met are those that were written, each under its key.
use Rattle.std.proofs.Common.{◌≡◌, ℕ, cond, List, [], ◌∷◌, Some, None, refl, sym, ap, subst, ◌∙◌, inl, inr}
use Rattle.std.specs.Prelude.{⊤}
use Rattle.std.proofs.lemmas.Bool.Decides.{eqb_tells}
use Rattle.archive_shape_layout.specs.Shape.{Pointee}
use Rattle.archive_shape_layout.specs.Value.{Value}
use Rattle.archive_shape_layout.specs.Holds.{Visit}
use Rattle.archive_shape_canonical.specs.Limits.{Shared, IsUnmet, IsMetAt}
use Rattle.archive_forms_laws.specs.State.{Met, Keys, SharedValue, AreOneToOne, IsNoneOf, visit_of_key}
use Rattle.cabinet_documents.specs.SharedKeys.{key_of_text}
use Rattle.cabinet_documents.proofs.Values.{shared_string}

-- a value that is shared, where it lies
abbrev pub shared_at : SharedValue → ℕ → Shared
shared_at a n = record { pointee = a.pointee; value = a.value; pos = n }

-- ---- whatever was written

pub met_unmet : (q : Pointee) (v : Value) (n : ℕ) (seen : List Shared) → IsUnmet q v seen → IsMetAt q v n seen → ⊥
met_unmet q v n [] u g = g
met_unmet q v n (x ∷ seen) u (inl e) = u.0 (sym (ap (λ (s : Shared). s.pointee) e)) (sym (ap (λ (s : Shared). s.value) e))
met_unmet q v n (x ∷ seen) u (inr g) = met_unmet q v n seen u.1 g

unmet_as : (q : Pointee) (v : Value) (n : ℕ) (x : Shared) (seen : List Shared) → record { pointee = q; value = v; pos = n } ≡ x → IsUnmet x.pointee x.value seen → IsUnmet q v seen
unmet_as q v n x seen e u =
    subst (λ p. IsUnmet p v seen) (sym (ap (λ (s : Shared). s.pointee) e)) (subst (λ y. IsUnmet x.pointee y seen) (sym (ap (λ (s : Shared). s.value) e)) u)

module _ (keys : Keys) where
  -- a shared value that was written under a key that stands for it
  pub record IsOfKey (a : Shared) (m : Met) : Type 0 where
    pub value : SharedValue
    pub stands : keys m.key ≡ Some value
    pub is : a ≡ shared_at value m.visit.pos

  -- all are, each once
  abbrev pub Alike : List Shared → List Met → Type 0
  Alike [] [] = ⊤
  Alike [] (m ∷ ms) = ⊥
  Alike (a ∷ seen) [] = ⊥
  Alike (a ∷ seen) (m ∷ ms) = IsOfKey a m × IsUnmet a.pointee a.value seen × Alike seen ms

  -- what is not written under a key was not met
  module _ (apart : AreOneToOne keys) (k : ℕ) (b : SharedValue) (stands : keys k ≡ Some b) where
    pub not_met : (seen : List Shared) (ms : List Met) → Alike seen ms → visit_of_key ms k ≡ None → IsUnmet b.pointee b.value seen
    not_met [] [] a e = tt
    not_met [] (m ∷ ms) a e = absurd a
    not_met (x ∷ seen) [] a e = absurd a
    not_met (x ∷ seen) (m ∷ ms) a e =
        let others = visit_of_key ms k in
        elim (eqb_tells m.key k) [
          | inl is ↦ let some : Some m.visit ≡ None = sym (ap (λ c. cond c (Some m.visit) others) is.0) ∙ e in absurd cc
          | inr differs ↦
              let rest : others ≡ None = sym (ap (λ c. cond c (Some m.visit) others) differs.0) ∙ e in
              let here : x.pointee ≡ b.pointee → x.value ≡ b.value → ⊥ = λ type same_value.
              differs.1 (apart m.key k a.0.value b a.0.stands stands (sym (ap (λ (s : Shared). s.pointee) a.0.is) ∙ type) (sym (ap (λ (s : Shared). s.value) a.0.is) ∙ same_value)) in
              (here, not_met seen ms a.2 rest)
        ]

  -- and what is written under it was met there
  module _ (k : ℕ) (b : SharedValue) (stands : keys k ≡ Some b) where
    pub met_there : (seen : List Shared) (ms : List Met) (v : Visit) → Alike seen ms → visit_of_key ms k ≡ Some v → IsMetAt b.pointee b.value v.pos seen
    met_there [] [] v a e = absurd cc
    met_there [] (m ∷ ms) v a e = absurd a
    met_there (x ∷ seen) [] v a e = absurd a
    met_there (x ∷ seen) (m ∷ ms) v a e =
        let others = visit_of_key ms k in
        elim (eqb_tells m.key k) [
          | inl is ↦
              let found : Some m.visit ≡ Some v = sym (ap (λ c. cond c (Some m.visit) others) is.0) ∙ e in
              let visit : m.visit ≡ v = cc in
              let both : Some a.0.value ≡ Some b = sym a.0.stands ∙ ap keys is.1 ∙ stands in
              let one : a.0.value ≡ b = cc in
              inl (sym (a.0.is ∙ ap (λ z. shared_at z m.visit.pos) one ∙ ap (λ (z : Visit). shared_at b z.pos) visit))
          | inr differs ↦
              let rest : others ≡ Some v = sym (ap (λ c. cond c (Some m.visit) others) differs.0) ∙ e in
              inr (met_there seen ms v a.2 rest)
        ]

  pub one_met : (q : Pointee) (v : Value) (n k : ℕ) (seen : List Shared) (ms : List Met) → Alike seen ms → IsMetAt q v n seen → IsMetAt q v k seen → n ≡ k
  one_met q v n k [] ms a f g = absurd f
  one_met q v n k (x ∷ seen) [] a f g = absurd a
  one_met q v n k (x ∷ seen) (m ∷ ms) a (inl e) (inl f) = ap (λ (s : Shared). s.pos) (e ∙ sym f)
  one_met q v n k (x ∷ seen) (m ∷ ms) a (inl e) (inr g) = absurd (met_unmet q v k seen (unmet_as q v n x seen e a.1) g)
  one_met q v n k (x ∷ seen) (m ∷ ms) a (inr f) (inl e) = absurd (met_unmet q v n seen (unmet_as q v k x seen e a.1) f)
  one_met q v n k (x ∷ seen) (m ∷ ms) a (inr f) (inr g) = one_met q v n k seen ms a.2 f g

-- ---- what is known where a value is written

-- What keys stand for, no two for one value, texts their own; and the keys of what may be being written, which are those
-- of no text.
pub record Sharing : Type 1 where
  pub keys : Keys
  pub apart : AreOneToOne keys
  pub texts : (t : List ℕ) → keys (key_of_text t) ≡ Some (shared_string t)
  pub may_be_begun : ℕ → Type 0
  pub no_text : (k : ℕ) → may_be_begun k → (t : List ℕ) → k ≡ key_of_text t → ⊥

-- only such keys are begun
abbrev pub Begun : Sharing → List ℕ → Type 0
Begun g [] = ⊤
Begun g (k ∷ ks) = g.may_be_begun k × Begun g ks

pub no_text_begun : (g : Sharing) (ks : List ℕ) → Begun g ks → (t : List ℕ) → IsNoneOf (key_of_text t) ks
no_text_begun g [] b t = tt
no_text_begun g (k ∷ ks) b t = ((λ is. g.no_text k b.0 t is), no_text_begun g ks b.1 t)

-- nothing is written under a key that may be begun
abbrev pub Spares : Sharing → List Met → List Met → Type 0
Spares g ms ns = (k : ℕ) → g.may_be_begun k → visit_of_key ms k ≡ None → visit_of_key ns k ≡ None
