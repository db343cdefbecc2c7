-- The least number at which a test passes. There is one at most, so it is found from a number at which the test is
-- known to pass, without its being known which.
use Rattle.std.proofs.Common.{◌≡◌, ℕ, zero, suc, ◌+◌, ◌<◌, ◌⊎◌, Bool, true, false, refl, ap, subst, inl, inr, ◌∙◌, arith}
use Rattle.std.proofs.lemmas.Bool.{cases_order}
use Rattle.std.proofs.Math.Bool.{Bool-set}
use Rattle.std.proofs.Math.Logic.{∥∥₁_elim}

module _ (test : ℕ → Bool) where
  record IsLeast (n : ℕ) : Type 0 where
    passes : test n ≡ true
    before : (k : ℕ) → k < n → test k ≡ false

  IsLeast-prop : (n : ℕ) → IsProp (IsLeast n)
  IsLeast-prop n = hlevel (Bool-set)

  not_before : (m n : ℕ) → IsLeast m → IsLeast n → m < n → ⊥
  not_before m n x y less = let p = x.passes in let q = y.before m less in cc

  one_least : (m n : ℕ) → IsLeast m → IsLeast n → m ≡ n
  one_least m n x y = elim (cases_order m n) [
    | inl e ↦ e
    | inr (inl less) ↦ absurd (not_before m n x y less)
    | inr (inr less) ↦ absurd (not_before n m y x less)
  ]

  Least-prop : IsProp ((n : ℕ) × IsLeast n)
  Least-prop x y = subst (λ n. (l : IsLeast n) → x ≡ (n, l)) (one_least x.0 y.0 x.1 y.1) (λ l. ap (λ (z : IsLeast x.0). (x.0, z)) (IsLeast-prop x.0 x.1 l)) y.1

  -- upwards from `from`, below which no number passes
  search_up : (steps from : ℕ) → test (from + steps) ≡ true → ((k : ℕ) → k < from → test k ≡ false) → (n : ℕ) × IsLeast n
  search_up zero from e none = (from, record { passes = subst (λ n. test n ≡ true) (omega arith) e; before = none })
  search_up (suc steps) from e none = by_test (test from) refl (search_up steps (suc from) (subst (λ n. test n ≡ true) (omega arith) e))
    where
      by_test : (b : Bool) → test from ≡ b → (((k : ℕ) → k < suc from → test k ≡ false) → (n : ℕ) × IsLeast n) → (n : ℕ) × IsLeast n
      by_test true is later = (from, record { passes = is; before = none })
      by_test false is later = later (λ k less. none_more k less (cases_order k from))
        where
          none_more : (k : ℕ) → k < suc from → (k ≡ from) ⊎ ((k < from) ⊎ (from < k)) → test k ≡ false
          none_more k less (inl same) = ap test same ∙ is
          none_more k less (inr (inl below)) = none k below
          none_more k less (inr (inr above)) = absurd (omega arith)

  -- a number at which the test passes is found
  pub passing : ∥ ((n : ℕ) × test n ≡ true) ∥₁ → (n : ℕ) × test n ≡ true
  passing known =
      let least = ∥∥₁_elim known Least-prop (λ x. search_up x.0 0 (subst (λ n. test n ≡ true) (omega arith) x.1) (λ k less. absurd (omega arith))) in
      (least.0, least.1.passes)
