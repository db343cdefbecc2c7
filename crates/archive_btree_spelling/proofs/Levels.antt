-- How many levels items need, and how many items lie below each pointer of their root.
use Rattle.std.proofs.Common.{◌≡◌, ◌∙◌, ℕ, zero, suc, ◌+◌, ◌-◌, ◌*◌, ◌^◌, ◌<◌, ◌≤◌, min, Bool, true, false, cond, nat_le, refl, ap, sym, subst, arith, ◌⊎◌, inl, inr, leb-true}
use Rattle.std.proofs.lemmas.Bool.Decides.{nat_tests}
use Rattle.std.proofs.Math.Nat.{pow-succ', pow-zero, one-le-pow, pow-le-pow_left}
use Rattle.archive_shape_canonical.specs.Packed.{full, levels_from, levels_for, child_items}

pub above : (n m : ℕ) → nat_le n m ≡ false → m < n
above n m e = grind (arith, nat_tests)

-- where `levels + fuel` levels have room, the least number of levels has
levels_room : (fuel most n levels : ℕ) → n ≤ full most (levels + fuel) → n ≤ full most (levels_from fuel most n levels)
levels_room zero most n levels h = subst (λ z. n ≤ full most z) (omega arith) h
levels_room (suc fuel) most n levels h =
    tested (nat_le n (full most levels)) refl (levels_room fuel most n (levels + 1) (subst (λ z. n ≤ full most z) (omega arith) h))
  where
    tested : (b : Bool) → nat_le n (full most levels) ≡ b → n ≤ full most (levels_from fuel most n (levels + 1)) → n ≤ full most (cond b levels (levels_from fuel most n (levels + 1)))
    tested true e rest = leb-true n (full most levels) e
    tested false e rest = rest

-- it is no greater than any that has
levels_within : (fuel most n levels l : ℕ) → levels ≤ l → n ≤ full most l → levels_from fuel most n levels ≤ l
levels_within zero most n levels l up h = up
levels_within (suc fuel) most n levels l up h = tested (nat_le n (full most levels)) refl (λ further. levels_within fuel most n (levels + 1) l further h)
  where
    tested : (b : Bool) → nat_le n (full most levels) ≡ b → (levels + 1 ≤ l → levels_from fuel most n (levels + 1) ≤ l) → cond b levels (levels_from fuel most n (levels + 1)) ≤ l
    tested true e rest = up
    tested false e rest =
        let more = above n (full most levels) e in
        let apart : levels ≡ l → ⊥ = λ same. let g = subst (λ z. n ≤ full most z) (sym same) h in omega (arith, g, more) in
        rest (omega (arith, apart, up))

-- one level less has no room
levels_least : (fuel most n levels : ℕ) → (levels_from fuel most n levels ≡ levels) ⊎ (full most (levels_from fuel most n levels - 1) < n)
levels_least zero most n levels = inl refl
levels_least (suc fuel) most n levels = tested (nat_le n (full most levels)) refl (levels_least fuel most n (levels + 1))
  where
    tested : (b : Bool) → nat_le n (full most levels) ≡ b → (levels_from fuel most n (levels + 1) ≡ levels + 1) ⊎ (full most (levels_from fuel most n (levels + 1) - 1) < n)
        → (cond b levels (levels_from fuel most n (levels + 1)) ≡ levels) ⊎ (full most (cond b levels (levels_from fuel most n (levels + 1)) - 1) < n)
    tested true e rest = inl refl
    tested false e (inl same) = inr (subst (λ z. full most z < n) (omega (arith, same)) (above n (full most levels) e))
    tested false e (inr least) = inr least

-- n items have room on n levels
below_power : (most n : ℕ) → 0 < most → suc n ≤ (most + 1) ^ n
below_power most zero some = omega (arith, pow-zero (most + 1))
below_power most (suc n) some =
    let rest = below_power most n some in
    let p = (most + 1) ^ n in
    let twice : 2 * p ≤ (most + 1) * p = twice_below most p some in
    subst (λ z. suc (suc n) ≤ z) (sym (pow-succ' (most + 1) n)) (omega (arith, rest, twice))
  where
    twice_below : (m p : ℕ) → 0 < m → 2 * p ≤ (m + 1) * p
    twice_below (suc m) p h = omega arith
    twice_below zero p h = absurd (omega (arith, h))

-- the least number of levels has room
pub levels_hold : (most n : ℕ) → 0 < most → n ≤ full most (levels_for most n)
levels_hold most n some = levels_room n most n 0 (let h = below_power most n some in let same : 0 + n ≡ n = omega arith in subst (λ z. n ≤ full most z) (sym same) (omega (arith, h)))

pub levels_are_least : (most n l : ℕ) → n ≤ full most l → levels_for most n ≤ l
levels_are_least most n l h = levels_within n most n 0 l (omega arith) h

-- items in 32 bits need at most 32 levels
pub levels_of_words : (most n : ℕ) → 0 < most → n < 2 ^ 32 → levels_for most n ≤ 32
levels_of_words most n some small =
    let two : 2 ^ 32 ≤ (most + 1) ^ 32 = pow-le-pow_left {n = 2} {m = most + 1} (omega arith) 32 in
    levels_are_least most n 32 (omega arith)

-- ---- below an inner node

-- with p the number of leaves' places two levels up
pub record Measured (most n : ℕ) : Type 0 where
  -- of the levels below, those above the last
  pub upper : ℕ
  pub levels : levels_for most n ≡ suc (suc upper)
  -- the number of items that a child has above the last level, the number that it has room for in the last level, and
  -- the number of items in the node's last level in all
  pub base : ℕ
  pub wide : ℕ
  pub last : ℕ
  pub child : (i : ℕ) → child_items most n i ≡ base + min wide (last - i * wide)
  pub whole : n ≡ suc most * base + most + last
  pub room : last ≤ suc most * wide
  pub full_child : base + wide ≡ full most (suc upper)

-- more items than a leaf has need two levels
two_levels : (most n : ℕ) → 0 < most → most < n → 2 ≤ levels_for most n
two_levels most n some more = tested (levels_for most n) (levels_hold most n some)
  where
    tested : (l : ℕ) → n ≤ full most l → 2 ≤ l
    tested zero h = absurd (let e = pow-zero (most + 1) in omega (arith, h, e, more))
    tested (suc zero) h = absurd (let e = pow-succ' (most + 1) 0 in let f = pow-zero (most + 1) in let g : (most + 1) ^ 1 ≡ most + 1 = e ∙ ap (λ z. (most + 1) * z) f ∙ omega arith in omega (arith, h, g, more))
    tested (suc (suc l)) h = omega arith

measured_by : (most n a b r : ℕ) → suc b ≡ suc most * suc a → r ≡ suc most * suc b → b < n → n ≤ r - 1
    → (n ≡ suc most * a + most + (n - b)) × (n - b ≤ suc most * (b - a)) × (a + (b - a) ≡ b)
measured_by most n a b r e f low high =
    let is_b : b ≡ a + most * suc a = omega (arith, e) in
    let wide : b - a ≡ most * suc a = omega (arith, is_b) in
    let is_r : r ≡ suc b + most * suc b = omega (arith, f) in
    let much : most * suc b ≡ suc most * (most * suc a) = ap (λ z. most * z) e ∙ swapped most (suc most) (suc a) in
    let second : n - b ≤ suc most * (most * suc a) = omega (arith, is_r, much, high) in
    (omega (arith, is_b, low), subst (λ z. n - b ≤ suc most * z) (sym wide) second, omega (arith, is_b))
  where
    swapped : (a b c : ℕ) → a * (b * c) ≡ b * (a * c)
    swapped a b c = grind arith

pub measured : (most n : ℕ) → 0 < most → most < n → Measured most n
measured most n some more =
    by_levels (levels_for most n) refl (two_levels most n some more)
  where
    by_levels : (l : ℕ) → levels_for most n ≡ l → 2 ≤ l → Measured most n
    by_levels zero e h = absurd (omega (arith, h))
    by_levels (suc zero) e h = absurd (omega (arith, h))
    by_levels (suc (suc g)) e h =
        let p = (most + 1) ^ g in
        let q = (most + 1) ^ suc g in
        let r = (most + 1) ^ suc (suc g) in
        let same : most + 1 ≡ suc most = omega arith in
        let q_is : q ≡ suc most * p = pow-succ' (most + 1) g ∙ ap (λ z. z * p) same in
        let r_is : r ≡ suc most * q = pow-succ' (most + 1) (suc g) ∙ ap (λ z. z * q) same in
        let high : n ≤ r - 1 = subst (λ z. n ≤ full most z) e (levels_hold most n some) in
        let least = levels_least n most n 0 in
        let low : q - 1 < n = elim least [ inl z ↦ absurd (omega (arith, z, e)) | inr z ↦ subst (λ y. full most y < n) (omega (arith, e)) z ] in
        let some_p : 1 ≤ p = one-le-pow g (most + 1) (omega arith) in
        let some_q : 1 ≤ q = one-le-pow (suc g) (most + 1) (omega arith) in
        let p_up : suc (p - 1) ≡ p = omega (arith, some_p) in
        let q_up : suc (q - 1) ≡ q = omega (arith, some_q) in
        let m = measured_by most n (p - 1) (q - 1) r (q_up ∙ q_is ∙ ap (λ z. suc most * z) (sym p_up)) (r_is ∙ ap (λ z. suc most * z) (sym q_up)) low high in
        record {
          upper = g;
          levels = e;
          base = p - 1;
          wide = (q - 1) - (p - 1);
          last = n - (q - 1);
          child = λ i.
              let P : ℕ → ℕ → Type 0 = λ l u.
              full most l + min (full most u - full most l) ((n - full most u) - i * (full most u - full most l))
              ≡ (p - 1) + min ((q - 1) - (p - 1)) ((n - (q - 1)) - i * ((q - 1) - (p - 1))) in
              let low_is : g ≡ levels_for most n - 1 - 1 = omega (arith, e) in
              let up_is : suc g ≡ levels_for most n - 1 = omega (arith, e) in
              subst (λ u. P (levels_for most n - 1 - 1) u) up_is (subst (λ l. P l (suc g)) low_is refl);
          whole = m.0;
          room = m.1;
          full_child = m.2;
        }
