-- A tree whose nodes have as many items below each pointer as those of a packed tree is packed.
use Rattle.std.proofs.Common.{◌≡◌, ◌∙◌, ℕ, zero, suc, ◌+◌, ◌-◌, ◌*◌, ◌^◌, ◌<◌, ◌≤◌, min, inl, inr, List, length, refl, ap, sym, subst, arith}
use Rattle.std.specs.Prelude.{⊤}
use Rattle.std.proofs.lemmas.Bool.{cases_lt}
use Rattle.std.proofs.Math.Nat.{pow-succ', pow-zero, one-le-pow, mul-le-mul_left}
use Rattle.archive_shape_canonical.specs.Packed.{full, levels_for, child_items}
use Rattle.archive_btree_layout.specs.Tree.{Tree, Branches, items, items_of, entries_of}
use Rattle.archive_btree_layout.specs.Tree.Tree.{absent, leaf, inner}
use Rattle.archive_btree_layout.specs.Tree.Branches.{greater, lesser}
use Rattle.archive_btree_layout.specs.Packed.{IsPacked}
use Rattle.archive_btree_layout.proofs.Filling.{Fills, FillsAll, width, room, packed}
use Rattle.archive_btree_layout.proofs.Filling.Fills.{fills_none, fills_last, fills_leaf, fills_inner}
use Rattle.archive_btree_layout.proofs.Filling.FillsAll.{fills_greater, fills_lesser}
use Rattle.archive_btree_spelling.proofs.Levels.{levels_hold, levels_are_least}
use Rattle.archive_btree_spelling.proofs.Counts.{child_by_counts, power_more, at_least_one}

abbrev mutual
  -- a leaf has an entry and at most `most`; an inner node has more items than that, `most` own entries, and below each
  -- pointer as many items as a packed node has there
  pub IsDivided : {A : Type 0} → ℕ → Tree A → Type 0
  IsDivided most absent = ⊤
  IsDivided most (leaf es) = (0 < length es) × (length es ≤ most)
  IsDivided most (inner bs) = (most < length (items_of bs)) × (length (entries_of bs) ≡ most) × AreDivided most (length (items_of bs)) 0 bs

  pub AreDivided : {A : Type 0} → ℕ → ℕ → ℕ → Branches A → Type 0
  AreDivided most n i (greater t) = (length (items t) ≡ child_items most n i) × IsDivided most t
  AreDivided most n i (lesser t e bs) = (length (items t) ≡ child_items most n i) × IsDivided most t × AreDivided most n (suc i) bs

width_is : (most g : ℕ) → width most g ≡ (most + 1) ^ g
width_is most zero = sym (pow-zero (most + 1))
width_is most (suc g) =
    let same : suc most ≡ most + 1 = omega arith in
    ap (λ z. suc most * z) (width_is most g) ∙ ap (λ z. z * (most + 1) ^ g) same ∙ sym (pow-succ' (most + 1) g)

two_at_least : (a p q : ℕ) → 0 < a → 1 ≤ p → q ≡ p + a * p → 2 ≤ q
two_at_least (suc a) p q k g f = omega (arith, g, f)
two_at_least zero p q k g f = absurd (omega (arith, k))

first_power : (most : ℕ) → most * (most + 1) ^ 0 ≡ most
first_power most = ap (λ z. most * z) (pow-zero (most + 1)) ∙ omega arith

-- an inner node has something below it: an entry in the last level, or a level above that
some_left : (most g last n : ℕ) → suc n ≡ (most + 1) ^ suc g + last → most < n → 0 < last + g
some_left most zero last n e more =
    let one = pow-zero (most + 1) in
    let next = power_more most 0 in
    let many = first_power most in
    omega (arith, e, more, one, next, many)
some_left most (suc g) last n e more = omega arith

module _ {A : Type 0} (most : ℕ) (some : 0 < most) where
  -- no items are no node
  fills_absent : (h last : ℕ) → 1 ≡ (most + 1) ^ h + last → Fills {A = A} most h last absent
  fills_absent zero last e = fills_none refl (let one = pow-zero (most + 1) in omega (arith, e, one)) refl
  fills_absent (suc h) last e =
      let grown = power_more most h in
      let some_p : 1 ≤ (most + 1) ^ h = one-le-pow h (most + 1) (omega arith) in
      let more : 1 ≤ most * (most + 1) ^ h = at_least_one most ((most + 1) ^ h) some some_p in
      absurd (omega (arith, e, grown, some_p, more))

  fills_of_leaf : (h last : ℕ) (es : List A) → suc (length es) ≡ (most + 1) ^ h + last → 0 < length es → length es ≤ most → Fills most h last (leaf es)
  fills_of_leaf zero last es e own few = let one = pow-zero (most + 1) in fills_last refl (omega (arith, e, one, own)) refl (omega (arith, e, one))
  fills_of_leaf (suc zero) last es e own few =
      let one = pow-zero (most + 1) in
      let next = power_more most 0 in
      let many = first_power most in
      fills_leaf refl (omega (arith, e, few, one, next, many)) refl (omega (arith, e, few, one, next, many))
  fills_of_leaf (suc (suc h)) last es e own few =
      let p = (most + 1) ^ h in
      let q = (most + 1) ^ suc h in
      let next = power_more most h in
      let more = power_more most (suc h) in
      let some_p : 1 ≤ p = one-le-pow h (most + 1) (omega arith) in
      let q_some : 2 ≤ q = two_at_least most p q some some_p next in
      let much : most * 2 ≤ most * q = mul-le-mul_left most q_some in
      absurd (omega (arith, e, few, more, much, q_some))

  mutual
    pub fills_divided : (h last : ℕ) (t : Tree A) → suc (length (items t)) ≡ (most + 1) ^ h + last → last ≤ most * (most + 1) ^ h → IsDivided most t → Fills most h last t
    fills_divided h last absent e r d = fills_absent h last e
    fills_divided h last (leaf es) e r d = fills_of_leaf h last es e d.0 d.1
    fills_divided zero last (inner bs) e r d =
        let one = pow-zero (most + 1) in
        let many = first_power most in
        let more = d.0 in
        absurd (omega (arith, e, r, more, one, many))
    fills_divided (suc g) last (inner bs) e r d =
        let none : last - 0 * (most * (most + 1) ^ g) ≡ last = omega arith in
        let all = fills_branches g (length (items_of bs)) last 0 most bs d.0 e r (omega arith) d.1 d.2 in
        fills_inner refl (some_left most g last (length (items_of bs)) e d.0) refl (subst (λ z. FillsAll most g most z bs) none all)

    -- the children of a node of n items fill their places
    fills_branches : (g n last i more : ℕ) (bs : Branches A) → most < n → suc n ≡ (most + 1) ^ suc g + last → last ≤ most * (most + 1) ^ suc g
        → i + more ≡ most → length (entries_of bs) ≡ more → AreDivided most n i bs
        → FillsAll most g more (last - i * (most * (most + 1) ^ g)) bs
    fills_branches g n last i zero (greater t) more_n e room_n at_i own d =
        let p = (most + 1) ^ g in
        let w = most * p in
        let some_p : 1 ≤ p = one-le-pow g (most + 1) (omega arith) in
        let count = child_by_counts most g n last i some more_n (omega (arith, at_i)) e room_n in
        let next : most * (most + 1) ^ suc g ≡ w + most * w = ap (λ z. most * z) (power_more most g) ∙ omega arith in
        let i_is : i ≡ most = omega (arith, at_i) in
        let spent : i * w ≡ most * w = ap (λ z. z * w) i_is in
        let left : last - i * w ≤ w = omega (arith, room_n, next, spent) in
        let size = d.0 in
        fills_greater refl refl (fills_divided g (last - i * w) t (omega (arith, count, size, left, some_p)) left d.1)
    fills_branches g n last i zero (lesser t x bs) more_n e room_n at_i own d = absurd (omega (arith, own))
    fills_branches g n last i (suc more) (greater t) more_n e room_n at_i own d = absurd (omega (arith, own))
    fills_branches g n last i (suc more) (lesser t x bs) more_n e room_n at_i own d =
        let p = (most + 1) ^ g in
        let w = most * p in
        let y = last - i * w in
        let some_p : 1 ≤ p = one-le-pow g (most + 1) (omega arith) in
        let count = child_by_counts most g n last i some more_n (omega (arith, at_i)) e room_n in
        let size = d.0 in
        let room_is : room most g ≡ w = ap (λ z. most * z) (width_is most g) in
        let step : suc i * w ≡ i * w + w = omega arith in
        let left : last - suc i * w ≡ y - min y w = omega (arith, step) in
        let rest = fills_branches g n last (suc i) more bs more_n e room_n (omega (arith, at_i)) (omega (arith, own)) d.2 in
        fills_lesser refl refl (ap (λ z. min y z) (sym room_is))
        (fills_divided g (min y w) t (omega (arith, count, size, some_p)) (omega arith) d.1)
        (subst (λ z. FillsAll most g more z bs) left rest)

-- so it is packed
pub packed_divided : {A : Type 0} (most : ℕ) (t : Tree A) → 0 < most → 0 < length (items t) → IsDivided most t → IsPacked most t
packed_divided most t some items_some d = by_levels (levels_for most (length (items t))) refl
  where
    by_levels : (l : ℕ) → levels_for most (length (items t)) ≡ l → IsPacked most t
    by_levels zero e =
        let k : length (items t) ≤ full most 0 = subst (λ z. length (items t) ≤ full most z) e (levels_hold most (length (items t)) some) in
        absurd (omega (arith, k, items_some, pow-zero (most + 1)))
    by_levels (suc h) e =
        let n = length (items t) in
        let p = (most + 1) ^ h in
        let some_p : 1 ≤ p = one-le-pow h (most + 1) (omega arith) in
        let grown = power_more most h in
        let high : n ≤ full most (suc h) = subst (λ z. n ≤ full most z) e (levels_hold most n some) in
        let low : full most h < n = elim (cases_lt (full most h) n) [ inl a ↦ a | inr b ↦ absurd (let f = levels_are_least most n h b in omega (arith, e, f)) ] in
        let last = suc n - p in
        let some_last : 0 < last = omega (arith, low, some_p) in
        let few : last ≤ most * p = omega (arith, high, grown, some_p) in
        let room_is : room most h ≡ most * p = ap (λ z. most * z) (width_is most h) in
        packed most h last t some some_last (omega (arith, few, room_is))
        (fills_divided most some h last t (omega (arith, low, some_p)) few d)
