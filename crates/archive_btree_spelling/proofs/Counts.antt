-- How many items lie below each pointer of a node, by the levels above its last one and by how many items that has.
use Rattle.std.proofs.Common.{◌≡◌, ◌∙◌, ℕ, zero, suc, ◌+◌, ◌-◌, ◌*◌, ◌^◌, ◌<◌, ◌≤◌, min, refl, ap, subst, arith, inl, inr}
use Rattle.std.proofs.lemmas.Bool.{cases_lt}
use Rattle.std.proofs.Math.Nat.{pow-succ', pow-zero, one-le-pow, pow-le-pow_right, mul-le-mul_right}
use Rattle.archive_shape_canonical.specs.Packed.{full, levels_for, child_items}
use Rattle.archive_btree_spelling.proofs.Levels.{levels_hold, levels_are_least}

-- one level more multiplies a level's width by `most + 1`
pub power_more : (most g : ℕ) → (most + 1) ^ suc g ≡ (most + 1) ^ g + most * (most + 1) ^ g
power_more most g = let e = pow-succ' (most + 1) g in omega (arith, e)

-- the least number of levels, between two numbers of items
pub levels_between : (most n l : ℕ) → 0 < most → full most l < n → n ≤ full most (suc l) → levels_for most n ≡ suc l
levels_between most n l some low high =
    let up = levels_are_least most n (suc l) high in
    let hold = levels_hold most n some in
    elim (cases_lt (levels_for most n) (suc l)) [
      | inl less ↦
          let fewer : levels_for most n ≤ l = omega (arith, less) in
          let grows : (most + 1) ^ levels_for most n ≤ (most + 1) ^ l = pow-le-pow_right {n = most + 1} (omega arith) fewer in
          absurd (omega (arith, grows, hold, low))
      | inr more ↦ omega (arith, up, more)
    ]

child_at : (most n i u : ℕ) → levels_for most n ≡ suc (suc u)
    → child_items most n i ≡ full most u + min (full most (suc u) - full most u) ((n - full most (suc u)) - i * (full most (suc u) - full most u))
child_at most n i u e =
    let P : ℕ → ℕ → Type 0 = λ x y.
    full most x + min (full most y - full most x) ((n - full most y) - i * (full most y - full most x))
    ≡ full most u + min (full most (suc u) - full most u) ((n - full most (suc u)) - i * (full most (suc u) - full most u)) in
    let low_is : u ≡ levels_for most n - 1 - 1 = omega (arith, e) in
    let up_is : suc u ≡ levels_for most n - 1 = omega (arith, e) in
    subst (λ y. P (levels_for most n - 1 - 1) y) up_is (subst (λ x. P x (suc u)) low_is refl)

-- where the last level is filled, each child is full
full_share : (a w i most : ℕ) → i ≤ most → a + min w ((w + most * w) - i * w) ≡ a + w
full_share a w i most h = let m = mul-le-mul_right w h in omega (arith, m)

pub at_least_one : (a b : ℕ) → 0 < a → 1 ≤ b → 1 ≤ a * b
at_least_one (suc a) b h g = omega (arith, g)
at_least_one zero b h g = absurd (omega (arith, h))

-- below a node with g levels between it and the last, with `last` items in that
pub child_by_counts : (most g n last i : ℕ) → 0 < most → most < n → i ≤ most → suc n ≡ (most + 1) ^ suc g + last → last ≤ most * (most + 1) ^ suc g
    → child_items most n i ≡ ((most + 1) ^ g - 1) + min (most * (most + 1) ^ g) (last - i * (most * (most + 1) ^ g))
child_by_counts most g n zero i some more within e room = by_levels g e
  where
    by_levels : (h : ℕ) → suc n ≡ (most + 1) ^ suc h + 0 → child_items most n i ≡ ((most + 1) ^ h - 1) + min (most * (most + 1) ^ h) (0 - i * (most * (most + 1) ^ h))
    by_levels zero f = let one = pow-zero (most + 1) in let next = power_more most 0 in let same : most * (most + 1) ^ 0 ≡ most = ap (λ z. most * z) one ∙ omega arith in absurd (omega (arith, f, one, next, same, more))
    by_levels (suc u) f =
        let p = (most + 1) ^ u in
        let q = (most + 1) ^ suc u in
        let r = (most + 1) ^ suc (suc u) in
        let some_p : 1 ≤ p = one-le-pow u (most + 1) (omega arith) in
        let q_is : q ≡ p + most * p = power_more most u in
        let r_is : r ≡ q + most * q = power_more most (suc u) in
        let grown : 1 ≤ most * q = at_least_one most q some (omega (arith, some_p, q_is)) in
        let levels : levels_for most n ≡ suc (suc u) = levels_between most n (suc u) some (omega (arith, f, r_is, grown)) (omega (arith, f)) in
        let w : q - 1 - (p - 1) ≡ most * p = omega (arith, q_is, some_p) in
        let split : most * q ≡ most * p + most * (most * p) = ap (λ z. most * z) q_is ∙ omega arith in
        let last_is : n - (q - 1) ≡ most * p + most * (most * p) = omega (arith, f, r_is, split, q_is, some_p) in
        child_at most n i u levels
        ∙ ap (λ z. (p - 1) + min z ((n - (q - 1)) - i * z)) w
        ∙ ap (λ z. (p - 1) + min (most * p) (z - i * (most * p))) last_is
        ∙ full_share (p - 1) (most * p) i most within
        ∙ omega (arith, q_is, some_p)
child_by_counts most g n (suc last) i some more within e room =
    let p = (most + 1) ^ g in
    let q = (most + 1) ^ suc g in
    let some_p : 1 ≤ p = one-le-pow g (most + 1) (omega arith) in
    let q_is : q ≡ p + most * p = power_more most g in
    let r_is : (most + 1) ^ suc (suc g) ≡ q + most * q = power_more most (suc g) in
    let levels : levels_for most n ≡ suc (suc g) = levels_between most n (suc g) some (omega (arith, e, q_is, some_p)) (omega (arith, e, r_is, room)) in
    let w : q - 1 - (p - 1) ≡ most * p = omega (arith, q_is, some_p) in
    let last_is : n - (q - 1) ≡ suc last = omega (arith, e, q_is, some_p) in
    child_at most n i g levels
    ∙ ap (λ z. (p - 1) + min z ((n - (q - 1)) - i * z)) w
    ∙ ap (λ z. (p - 1) + min (most * p) (z - i * (most * p))) last_is
