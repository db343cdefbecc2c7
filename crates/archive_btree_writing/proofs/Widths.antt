-- How many items lie below each pointer of an inner node, by the number of places that the last level has.
use Rattle.std.proofs.Common.{◌≡◌, ◌∙◌, ℕ, zero, suc, ◌+◌, ◌-◌, ◌*◌, ◌/◌, ◌^◌, ◌<◌, ◌≤◌, min, ap, sym, subst, arith}
use Rattle.std.proofs.Math.Nat.{pow-zero, pow-succ', one-le-pow, mul-div_cancel_left, mul-le-mul_right}
use Rattle.archive_shape_canonical.specs.Packed.{child_items}
use Rattle.archive_btree_spelling.proofs.Counts.{child_by_counts}

-- the last level of a tree has places
pub some_wide : (most above wide : ℕ) → wide ≡ (most + 1) ^ above → 0 < wide
some_wide most above wide is = let p = one-le-pow above (most + 1) (omega arith) in omega (arith, p, is)

module _ (most above wide last : ℕ) (some : 0 < most) (is : wide ≡ (most + 1) ^ above) (room : last ≤ most * wide) (many : most < wide - 1 + last) where
  -- an inner node lies above the last level
  pub inner_above : 0 < above
  inner_above = tested above is
    where
      tested : (a : ℕ) → wide ≡ (most + 1) ^ a → 0 < a
      tested zero e =
          let one : wide ≡ 1 = e ∙ pow-zero (most + 1) in
          let few : last ≤ most * 1 = subst (λ z. last ≤ most * z) one room in
          absurd (omega (arith, one, few, many))
      tested (suc a) e = omega arith

  up : above ≡ suc (above - 1)
  up = omega (arith, inner_above)

  times : wide ≡ (most + 1) * (most + 1) ^ (above - 1)
  times = is ∙ ap (λ a. (most + 1) ^ a) up ∙ pow-succ' (most + 1) (above - 1)

  -- the last level below a pointer has this part of the places
  pub below_is : wide / (most + 1) ≡ (most + 1) ^ (above - 1)
  below_is = ap (λ z. z / (most + 1)) times ∙ mul-div_cancel_left ((most + 1) ^ (above - 1)) (omega arith)

  pub wide_is : wide ≡ wide / (most + 1) + most * (wide / (most + 1))
  wide_is = times ∙ ap (λ z. (most + 1) * z) (sym below_is) ∙ omega arith

  pub some_below : 0 < wide / (most + 1)
  some_below = some_wide most (above - 1) (wide / (most + 1)) below_is

  -- the number of items below pointer i, where `left` of the last level's entries are left
  pub child_size : (i left : ℕ) → i ≤ most → left ≡ last - i * (most * (wide / (most + 1)))
      → wide / (most + 1) - 1 + min left (most * (wide / (most + 1))) ≡ child_items most (wide - 1 + last) i
  child_size i left within e =
      let b = wide / (most + 1) in
      let p = (most + 1) ^ (above - 1) in
      let power : wide ≡ (most + 1) ^ suc (above - 1) = is ∙ ap (λ a. (most + 1) ^ a) up in
      let positive = some_wide most above wide is in
      let counted = child_by_counts most (above - 1) (wide - 1 + last) last i some many within (omega (arith, power, positive)) (subst (λ z. last ≤ most * z) power room) in
      let swap : min left (most * b) ≡ min (most * b) (last - i * (most * b)) = omega (arith, e) in
      ap (λ z. b - 1 + z) swap
      ∙ ap (λ z. (z - 1) + min (most * z) (last - i * (most * z))) below_is
      ∙ sym counted

  -- ---- what is still to come, after the first i children and entries

  pub below_less : wide / (most + 1) < wide
  below_less = let m = mul-le-mul_right (wide / (most + 1)) some in omega (arith, m, wide_is, some_below)

  abbrev pub ToGo : (i left done : ℕ) → Type 0
  ToGo i left done = done + (suc (most - i) * (wide / (most + 1) - 1) + (most - i) + left) ≡ wide - 1 + last

  pub togo_none : ToGo 0 last 0
  togo_none = let base = once most (wide / (most + 1)) some_below in omega (arith, wide_is, base, some_below)
    where
      once : (m b : ℕ) → 0 < b → suc (m - 0) * (b - 1) + m ≡ b - 1 + m * b
      once m (suc b) h = let one : suc b - 1 ≡ b = omega arith in let all : m - 0 ≡ m = omega arith in let l : suc (m - 0) * (suc b - 1) ≡ suc m * b = ap (λ z. suc z * (suc b - 1)) all ∙ ap (λ z. suc m * z) one in let r : m * suc b ≡ m * b + m = omega arith in let t : suc m * b ≡ b + m * b = omega arith in omega (arith, l, r, t, one)
      once m zero h = absurd (omega (arith, h))

  -- one more child, and the entry after it
  pub togo_more : (i left done : ℕ) → i < most → ToGo i left done
      → ToGo (i + 1) (left - most * (wide / (most + 1))) (done + (wide / (most + 1) - 1 + min left (most * (wide / (most + 1)))) + 1)
  togo_more i left done less h =
      let b = wide / (most + 1) - 1 in
      let next : most - i ≡ suc (most - (i + 1)) = omega arith in
      let split : suc (most - i) * b ≡ b + suc (most - (i + 1)) * b = ap (λ z. suc z * b) next ∙ omega arith in
      omega (arith, h, split, less)

  -- the next child has room for its items, with what is to come after it
  pub togo_room : (i left done : ℕ) → i ≤ most → ToGo i left done → done + (wide / (most + 1) - 1 + min left (most * (wide / (most + 1)))) + (most - i) ≤ wide - 1 + last
  togo_room i left done within h =
      let b = wide / (most + 1) - 1 in
      let split : suc (most - i) * b ≡ b + (most - i) * b = omega arith in
      omega (arith, h, split)

  -- the last child has all that is left
  pub togo_end : (i left done : ℕ) → i ≡ most → left ≡ last - i * (most * (wide / (most + 1))) → ToGo i left done
      → (min left (most * (wide / (most + 1))) ≡ left) × (done + (wide / (most + 1) - 1 + left) ≡ wide - 1 + last)
  togo_end i left done end e h =
      let b = wide / (most + 1) in
      let whole : most * wide ≡ most * b + most * (most * b) = ap (λ z. most * z) wide_is ∙ omega arith in
      let same : i * (most * b) ≡ most * (most * b) = ap (λ z. z * (most * b)) end in
      let none : most - i ≡ 0 = omega (arith, end) in
      let one : suc (most - i) * (b - 1) ≡ b - 1 = ap (λ z. suc z * (b - 1)) none ∙ omega arith in
      (omega (arith, e, same, whole, room), omega (arith, h, one, none))
