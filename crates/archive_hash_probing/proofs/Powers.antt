-- The least power of two that is not below a number.
use Rattle.std.proofs.Common.{◌≡◌, ℕ, zero, suc, ◌+◌, ◌*◌, ◌^◌, ◌<◌, ◌≤◌, Bool, cond, leb, refl, sym, ap, subst, ◌∙◌, arith, inl, inr}
use Rattle.std.proofs.lemmas.Bool.{cases_Bool, cases_lt, leb-true, leb-false}
use lib.Pow.{pow_mono}
use native.Mathlib.Nat.{pow-suc}
use Rattle.archive_shape_canonical.specs.Strides.{sixteens, doubled, least_power}

pub record IsLeastPower (n p : ℕ) : Type 0 where
  pub exponent : ℕ
  pub power : p ≡ 2 ^ exponent
  pub above : n ≤ p
  pub least : p < 2 * n

doubled_is : (times k n : ℕ) → 2 ^ k < 2 * n → n ≤ 2 ^ k + times → IsLeastPower n (doubled times (2 ^ k) n)
doubled_is zero k n low room = record { exponent = k; power = refl; above = omega arith; least = low }
doubled_is (suc times) k n low room =
    elim (cases_Bool (leb n (2 ^ k))) [
      | inl e ↦ let P : Bool → Type 0 = λ b. IsLeastPower n (cond b (2 ^ k) (doubled times (2 * 2 ^ k) n)) in subst P (sym e) (record { exponent = k; power = refl; above = leb-true n (2 ^ k) e; least = low })
      | inr e ↦
          let more : 2 ^ k < n = leb-false n (2 ^ k) e in
          let next : 2 ^ suc k ≡ 2 * 2 ^ k = omega (arith, pow-suc 2 k) in
          let P : Bool → Type 0 = λ b. IsLeastPower n (cond b (2 ^ k) (doubled times (2 * 2 ^ k) n)) in
          let Q : ℕ → Type 0 = λ p. IsLeastPower n (doubled times p n) in
          subst P (sym e) (subst Q next (doubled_is times (suc k) n (omega arith) (omega (arith, pow-pos k))))
    ]
  where
    pow-pos : (j : ℕ) → 0 < 2 ^ j
    pow-pos zero = omega arith
    pow-pos (suc j) = omega (arith, pow-pos j, pow-suc 2 j)

pub least_power_is : (n : ℕ) → 0 < n → IsLeastPower n (least_power n)
unfolding least_power
least_power_is n some = doubled_is n 0 n (omega arith) (omega arith)

not_less : (n a b : ℕ) → n ≤ 2 ^ a → 2 ^ b < 2 * n → a < b → ⊥
not_less n a b above least l = let up : suc a ≤ b = omega arith in let m = pow_mono up in omega (arith, m, pow-suc 2 a)

pub same_power : (n p q : ℕ) → IsLeastPower n p → IsLeastPower n q → p ≡ q
same_power n p q P Q =
    let a = P.exponent in
    let b = Q.exponent in
    let Pa : n ≤ 2 ^ a = let R : ℕ → Type 0 = λ x. n ≤ x in subst R P.power P.above in
    let Pl : 2 ^ a < 2 * n = let R : ℕ → Type 0 = λ x. x < 2 * n in subst R P.power P.least in
    let Qa : n ≤ 2 ^ b = let R : ℕ → Type 0 = λ x. n ≤ x in subst R Q.power Q.above in
    let Ql : 2 ^ b < 2 * n = let R : ℕ → Type 0 = λ x. x < 2 * n in subst R Q.power Q.least in
    elim (cases_lt a b) [
      | inl l ↦ absurd (not_less n a b Pa Ql l)
      | inr g ↦ elim (cases_lt b a) [
        | inl l ↦ absurd (not_less n b a Qa Pl l)
        | inr g' ↦ let e : a ≡ b = omega arith in P.power ∙ ap (λ x. 2 ^ x) e ∙ sym Q.power
      ]
    ]

pub sixteens_pos : (cap : ℕ) → 0 < cap → 0 < sixteens cap
sixteens_pos cap some = omega arith

pub sixteens_le : (cap : ℕ) → cap ≤ 16 * sixteens cap
sixteens_le cap = omega arith

pub small_power : (j n : ℕ) → 2 ^ j < 2 * n → n ≤ 2 ^ 28 → j < 29
small_power j n less few = elim (cases_lt j 29) [
  | inl l ↦ l
  | inr g ↦ absurd (omega (arith, pow_mono g))
]
