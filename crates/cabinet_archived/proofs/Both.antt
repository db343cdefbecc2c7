-- The keys of texts and those of wholes, each kind in a registry of its own.
use Rattle.std.proofs.Common.{◌≡◌, ℕ, ◌+◌, ◌*◌, ◌/◌, ◌%◌, ◌==◌, cond, Bool, true, false, refl, sym, ap, subst, ◌∙◌, arith, eqb-true}
use Rattle.std.specs.Prelude.{Result}
use Rattle.archive_shape_layout.specs.Progress.{Progress, IsSame, IsSet, Begins, Starts, Finishes}
use Rattle.archive_shape_layout.specs.Progress.Progress.{unmet, begun, ended}
use Rattle.archive_shape_layout.specs.declared.error.Error.{Error}
use Rattle.archive_core_serializing.specs.Kept.{IsNoneMet}
use Rattle.cabinet_archived.specs.Sharing.{of_both}

module _ (texts wholes : ℕ → Progress ℕ) where
  pub of_text : (n : ℕ) → of_both texts wholes (n * 2) ≡ texts n
  of_text n =
      let even : (n * 2) % 2 ≡ 0 = omega arith in
      let half : (n * 2) / 2 ≡ n = omega arith in
      ap (λ r. cond (r == 0) (texts ((n * 2) / 2)) (wholes ((n * 2) / 2))) even ∙ ap texts half

  pub of_whole : (n : ℕ) → of_both texts wholes (n * 2 + 1) ≡ wholes n
  of_whole n =
      let odd : (n * 2 + 1) % 2 ≡ 1 = omega arith in
      let half : (n * 2 + 1) / 2 ≡ n = omega arith in
      ap (λ r. cond (r == 0) (texts ((n * 2 + 1) / 2)) (wholes ((n * 2 + 1) / 2))) odd ∙ ap wholes half

  pub none_of_both : IsNoneMet texts → IsNoneMet wholes → IsNoneMet (of_both texts wholes)
  none_of_both no_text no_whole key = by (key % 2 == 0)
    where
      by : (b : Bool) → cond b (texts (key / 2)) (wholes (key / 2)) ≡ unmet
      by true = no_text (key / 2)
      by false = no_whole (key / 2)

-- ---- the progress of a text changes

module _ (wholes old new : ℕ → Progress ℕ) where
  pub text_set : (n : ℕ) (progress : Progress ℕ) → IsSet old new n progress → IsSet (of_both old wholes) (of_both new wholes) (n * 2) progress
  text_set n progress h = record {
    here = of_text new wholes n ∙ h.here;
    elsewhere = λ other differs. by other differs (other % 2 == 0) refl;
  }
    where
      by : (other : ℕ) → (other ≡ n * 2 → ⊥) → (b : Bool) → (other % 2 == 0) ≡ b → cond b (new (other / 2)) (wholes (other / 2)) ≡ cond b (old (other / 2)) (wholes (other / 2))
      by other differs true even = h.elsewhere (other / 2) (λ e. differs (let half = eqb-true (other % 2) 0 even in omega (arith, half, e)))
      by other differs false odd = refl

-- ---- that of a whole does

module _ (texts old new : ℕ → Progress ℕ) where
  whole_set : (n : ℕ) (progress : Progress ℕ) → IsSet old new n progress → IsSet (of_both texts old) (of_both texts new) (n * 2 + 1) progress
  whole_set n progress h = record {
    here = of_whole texts new n ∙ h.here;
    elsewhere = λ other differs. by other differs (other % 2 == 0) refl;
  }
    where
      by : (other : ℕ) → (other ≡ n * 2 + 1 → ⊥) → (b : Bool) → (other % 2 == 0) ≡ b → cond b (texts (other / 2)) (new (other / 2)) ≡ cond b (texts (other / 2)) (old (other / 2))
      by other differs true even = refl
      by other differs false odd =
          let not_even : other % 2 ≡ 0 → ⊥ = λ z. absurd (let u : (other % 2 == 0) ≡ true = ap (λ r. r == 0) z in cc) in
          h.elsewhere (other / 2) (λ e. differs (omega (arith, not_even, e)))

  pub whole_same : IsSame old new → IsSame (of_both texts old) (of_both texts new)
  whole_same h key = ap (cond (key % 2 == 0) (texts (key / 2))) (h (key / 2))

  pub whole_starts : (n : ℕ) (found : Progress ℕ) → Starts old new n found → Starts (of_both texts old) (of_both texts new) (n * 2 + 1) found
  whole_starts n found h = record { is_found = of_whole texts old n ∙ h.is_found; begins = by found h.begins }
    where
      by : (p : Progress ℕ) → Begins old new n p → Begins (of_both texts old) (of_both texts new) (n * 2 + 1) p
      by unmet g = whole_set n begun g
      by begun g = whole_same g
      by (ended x) g = whole_same g

  pub whole_finishes : (n pos : ℕ) (result : Result (Unit {0}) Error) → Finishes old new n pos result (old n)
      → Finishes (of_both texts old) (of_both texts new) (n * 2 + 1) pos result (of_both texts old (n * 2 + 1))
  whole_finishes n pos result h =
      subst (Finishes (of_both texts old) (of_both texts new) (n * 2 + 1) pos result) (sym (of_whole texts old n)) (by (old n) h)
    where
      by : (p : Progress ℕ) → Finishes old new n pos result p → Finishes (of_both texts old) (of_both texts new) (n * 2 + 1) pos result p
      by unmet g = (g.0, whole_same g.1)
      by begun g = (g.0, whole_set n (ended pos) g.1)
      by (ended x) g = (g.0, whole_same g.1)
