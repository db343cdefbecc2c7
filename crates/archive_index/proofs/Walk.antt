-- Entries that a walk has left, which stand side by side.
use Rattle.std.proofs.Common.{◌≡◌, ◌∙◌, ℕ, zero, suc, ◌+◌, ◌-◌, ◌*◌, ◌^◌, ◌<◌, ◌∷◌, length, map, All, refl, ap, sym, subst, arith}
use Rattle.std.proofs.lemmas.List.Elements.{All-nil, All-cons, All-tail}
use Rattle.archive_index.specs.Maps.{adjacent}

pub walk_length : {A : Type 0} (f : ℕ → A) (size at n : ℕ) → length (map f (adjacent size at n)) ≡ n
walk_length f size at zero = refl
walk_length f size at (suc n) = ap suc (walk_length f size (at + size) n)

pub side_step : (size at left : ℕ) → (left ≡ 0 → ⊥) → adjacent size at left ≡ at ∷ adjacent size (at + size) (left - 1)
side_step size at zero some = absurd (some refl)
side_step size at (suc n) some = let less : n ≡ suc n - 1 = omega arith in ap (λ m. at ∷ adjacent size (at + size) m) less

pub walk_within : (behind size at left : ℕ) → (left ≡ 0 → ⊥) → (at + left * size < 2 ^ 64) × All (λ p. p + behind < 2 ^ 64) (adjacent size at left)
    → (at + size + (left - 1) * size < 2 ^ 64) × All (λ p. p + behind < 2 ^ 64) (adjacent size (at + size) (left - 1))
walk_within behind size at left some h =
    let all = h.0 in
    let one : left ≡ (left - 1) + 1 = omega (arith, some) in
    let times : left * size ≡ ((left - 1) + 1) * size = ap (λ n. n * size) one in
    let more : ((left - 1) + 1) * size ≡ (left - 1) * size + size = omega arith in (
      omega (arith, all, times, more),
      All-tail (λ p. p + behind < 2 ^ 64) at (adjacent size (at + size) (left - 1)) (subst (All (λ p. p + behind < 2 ^ 64)) (side_step size at left some) h.1),
    )

-- what holds of each position by its number holds of all
pub all_side : (P : ℕ → Type 0) (size at n : ℕ) → ((i : ℕ) → i < n → P (at + i * size)) → All P (adjacent size at n)
all_side P size at zero h = All-nil P
all_side P size at (suc n) h =
    let first : at + 0 * size ≡ at = omega arith in
    All-cons P at (adjacent size (at + size) n) (subst P first (h 0 (omega arith)))
    (all_side P size (at + size) n (λ i less. let next : at + suc i * size ≡ at + size + i * size = let more : suc i * size ≡ i * size + size = omega arith in omega (arith, more) in subst P next (h (suc i) (omega (arith, less)))))

-- where there is a position the size decides
pub side_same : (size other at n : ℕ) → ((n ≡ 0 → ⊥) → size ≡ other) → adjacent size at n ≡ adjacent other at n
side_same size other at zero h = refl
side_same size other at (suc n) h = ap (λ m. adjacent m at (suc n)) (h (λ e. absurd (omega (arith, e))))
