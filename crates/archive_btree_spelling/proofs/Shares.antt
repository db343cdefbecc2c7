-- The items of an inner node are those below its pointers and its own in turn.
use Rattle.std.proofs.Common.{◌≡◌, ◌∙◌, ℕ, zero, suc, ◌+◌, ◌-◌, ◌*◌, ◌<◌, ◌≤◌, List, [], ◌∷◌, ◌++◌, length, take, drop, refl, ap, sym, subst, arith}
use Rattle.std.specs.Prelude.{⊤}
use Rattle.std.proofs.lemmas.List.{take-append-drop, length-take, length-drop}
use Rattle.archive_shape_canonical.specs.Packed.{levels_for, child_items}
use Rattle.archive_btree_spelling.specs.Parted.{shares, between}
use Rattle.archive_btree_spelling.proofs.Levels.{Measured, measured, levels_are_least}

child_low : (most n : ℕ) (m : Measured most n) (i : ℕ) → levels_for most (child_items most n i) ≤ suc m.upper
child_low most n m i =
    let e = m.child i in
    let f = m.full_child in
    levels_are_least most (child_items most n i) (suc m.upper) (subst (λ z. child_items most n i ≤ z) f (omega (arith, e)))

-- a step i * w further
step_wide : (i w : ℕ) → suc i * w ≡ i * w + w
step_wide i w = omega arith

module _ {C : Type 0} where
  -- a list is some lists with an element between each two
  abbrev pub IsWoven : List C → List (List C) → List C → Type 0
  IsWoven xs [] es = ⊥
  IsWoven xs (c ∷ []) [] = xs ≡ c
  IsWoven xs (c ∷ []) (e ∷ es) = ⊥
  IsWoven xs (c ∷ (d ∷ ds)) [] = ⊥
  IsWoven xs (c ∷ (d ∷ ds)) (e ∷ es) = (rest : List C) × (xs ≡ c ++ e ∷ rest) × IsWoven rest (d ∷ ds) es

  -- an element after the first m
  cut : (m : ℕ) (xs : List C) → m < length xs → (e : C) × (drop m xs ≡ e ∷ drop (suc m) xs)
  cut zero (x ∷ xs) h = (x, refl)
  cut (suc m) (x ∷ xs) h = cut m xs (omega arith)
  cut m [] h = absurd (omega arith)

module _ {C : Type 0} (most n : ℕ) where
  -- each list has as many elements as the children of a packed node, from child i on
  abbrev pub AreShares : ℕ → List (List C) → Type 0
  AreShares i [] = ⊤
  AreShares i (c ∷ cs) = (length c ≡ child_items most n i) × AreShares (i + 1) cs

  -- and no more than there are levels for
  abbrev pub AreLow : ℕ → List (List C) → Type 0
  AreLow l [] = ⊤
  AreLow l (c ∷ cs) = (levels_for most (length c) ≤ l) × AreLow l cs

  pub record Shared (i more l : ℕ) (xs : List C) : Type 0 where
    pub woven : IsWoven xs (shares most n i more xs) (between most n i more xs)
    pub are_shares : AreShares i (shares most n i more xs)
    pub are_low : AreLow l (shares most n i more xs)
    pub pointers : length (shares most n i more xs) ≡ suc more
    pub own : length (between most n i more xs) ≡ more

  first_is : (i more : ℕ) (xs : List C) → (c : List C) × (cs : List (List C)) × (shares most n i more xs ≡ c ∷ cs)
  first_is i zero xs = (xs, [], refl)
  first_is i (suc more) xs = (take (child_items most n i) xs, shares most n (suc i) more (drop (suc (child_items most n i)) xs), refl)

  -- in front of a list that is woven
  woven_more : (xs c rest : List C) (e : C) (cs : List (List C)) (es : List C) → xs ≡ c ++ e ∷ rest → IsWoven rest cs es → IsWoven xs (c ∷ cs) (e ∷ es)
  woven_more xs c rest e [] es s w = absurd w
  woven_more xs c rest e (d ∷ ds) es s w = (rest, s, w)

  pub shared_from : (m : Measured most n) (i more : ℕ) (xs : List C)
      → length xs ≡ suc more * m.base + more + (m.last - i * m.wide) → m.last - i * m.wide ≤ suc more * m.wide
      → Shared i more (suc m.upper) xs
  shared_from m i zero xs e f =
      let c = m.child i in
      let size : length xs ≡ child_items most n i = omega (arith, c, e, f) in
      record {
        woven = refl;
        are_shares = (size, tt);
        are_low = (subst (λ z. levels_for most z ≤ suc m.upper) (sym size) (child_low most n m i), tt);
        pointers = refl;
        own = refl;
      }
  shared_from m i (suc more) xs e f =
      let c = m.child i in
      let s = child_items most n i in
      let x = m.last - i * m.wide in
      let base_more : suc (suc more) * m.base ≡ m.base + suc more * m.base = omega arith in
      let wide_more : suc (suc more) * m.wide ≡ m.wide + suc more * m.wide = omega arith in
      let small : s < length xs = omega (arith, c, e, base_more) in
      let rest = drop (suc s) xs in
      let at_cut = cut s xs small in
      let next : m.last - suc i * m.wide ≡ x - m.wide = omega (arith, step_wide i m.wide) in
      let rest_size : length rest ≡ length xs - suc s = length-drop (suc s) xs in
      let later = shared_from m (suc i) more rest
      (omega (arith, rest_size, next, c, e, base_more, small))
      (omega (arith, next, f, wide_more)) in
      let first_size : length (take s xs) ≡ s = length-take s xs ∙ omega (arith, small) in
      let es_is : take 1 (drop s xs) ++ between most n (suc i) more rest ≡ at_cut.0 ∷ between most n (suc i) more rest = ap (λ z. take 1 z ++ between most n (suc i) more rest) at_cut.1 in
      let xs_is : xs ≡ take s xs ++ at_cut.0 ∷ rest = sym (take-append-drop s xs) ∙ ap (λ z. take s xs ++ z) at_cut.1 in
      let next_index : i + 1 ≡ suc i = omega arith in
      record {
        woven = subst (λ es. IsWoven xs (take s xs ∷ shares most n (suc i) more rest) es) (sym es_is) (woven_more xs (take s xs) rest at_cut.0 (shares most n (suc i) more rest) (between most n (suc i) more rest) xs_is later.woven);
        are_shares = (first_size, subst (λ z. AreShares z (shares most n (suc i) more rest)) (sym next_index) later.are_shares);
        are_low = (subst (λ z. levels_for most z ≤ suc m.upper) (sym first_size) (child_low most n m i), later.are_low);
        pointers = ap suc later.pointers;
        own = ap length es_is ∙ ap suc later.own;
      }

  -- of all items of an inner node
  pub shared : (l : ℕ) (xs : List C) → 0 < most → most < n → length xs ≡ n → levels_for most n ≤ suc l → Shared 0 most l xs
  shared l xs some more size within =
      let m = measured most n some more in
      let levels = m.levels in
      let whole = m.whole in
      let room = m.room in
      let none : m.last - 0 * m.wide ≡ m.last = omega arith in
      let s = shared_from m 0 most xs (omega (arith, size, whole, none)) (omega (arith, room, none)) in
      record { woven = s.woven; are_shares = s.are_shares; are_low = lower (shares most n 0 most xs) (omega (arith, levels, within)) s.are_low; pointers = s.pointers; own = s.own }
    where
      lower : {j : ℕ} (cs : List (List C)) → j ≤ l → AreLow j cs → AreLow l cs
      lower [] h a = tt
      lower (c ∷ cs) h a = let first = a.0 in (omega (arith, first, h), lower cs h a.1)
