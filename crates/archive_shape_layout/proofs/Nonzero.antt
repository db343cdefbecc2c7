-- Numbers without 0.
use Rattle.std.specs.Prelude.{◌≡◌, ℕ, ◌<◌}
use Rattle.std.proofs.Common.{ap, subst}
use Rattle.std.proofs.Math.Bridge.{le_prop}

module _ {A N : Type 0} (size : A → ℕ) (make : (a : A) → 0 < size a → N) where
  -- two are the same where their numbers are: that a number is not 0 has one proof
  pub one_nonzero : (a b : A) (p : 0 < size a) (q : 0 < size b) → a ≡ b → make a p ≡ make b q
  one_nonzero a b p q e =
      let P : A → Type 0 = λ c. (r : 0 < size c) → make a p ≡ make c r in
      subst P e (λ r. ap (make a) (le_prop p r)) q
