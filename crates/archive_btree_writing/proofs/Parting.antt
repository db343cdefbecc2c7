-- The items of an inner node, of which the first have come.
use Rattle.std.proofs.Common.{◌≡◌, ℕ, zero, suc, ◌+◌, ◌-◌, ◌<◌, ◌≤◌, Bool, true, false, cond, nat_le, List, [], ◌∷◌, ◌++◌, length, take, drop, append_assoc, length-append, refl, ap, sym, subst, ◌∙◌, arith, leb-true}
use Rattle.std.proofs.lemmas.Bool.Decides.{nat_tests}
use Rattle.std.proofs.lemmas.List.{take-append-drop, length-take, take_at, drop_at}
use Rattle.archive_shape_canonical.specs.Packed.{child_items}
use Rattle.archive_btree_spelling.specs.Parted.{Parted, parted, shares, between}

abbrev pub leaf_parts : {C : Type 0} → List C → Parted C
leaf_parts xs = record { kind = 0; below = []; own = xs }

abbrev pub inner_parts : {C : Type 0} → ℕ → ℕ → List C → Parted C
inner_parts most n xs = record { kind = 1; below = shares most n 0 most xs; own = between most n 0 most xs }

module _ {C : Type 0} (most : ℕ) where
  -- few items are those of a leaf
  pub parted_leaf : (xs : List C) → length xs ≤ most → parted most xs ≡ leaf_parts xs
  parted_leaf xs few = tested (nat_le (length xs) most) refl
    where
      tested : (b : Bool) → nat_le (length xs) most ≡ b → cond b (leaf_parts xs) (inner_parts most (length xs) xs) ≡ leaf_parts xs
      tested true e = refl
      tested false e = let more : most < length xs = grind (arith, nat_tests) in absurd (omega (arith, more, few))

  -- and more are those of an inner node
  pub parted_inner : (n : ℕ) (xs : List C) → length xs ≡ n → most < n → parted most xs ≡ inner_parts most n xs
  parted_inner n xs size many =
      let P : ℕ → Type 0 = λ z. parted most xs ≡ inner_parts most z xs in
      subst P size (tested (nat_le (length xs) most) refl)
    where
      tested : (b : Bool) → nat_le (length xs) most ≡ b → cond b (leaf_parts xs) (inner_parts most (length xs) xs) ≡ inner_parts most (length xs) xs
      tested true e = let few = leb-true (length xs) most e in absurd (omega (arith, few, size, many))
      tested false e = refl

module _ {C : Type 0} (most n : ℕ) where
  -- the items below a pointer, the item after it, and what follows
  pub shares_more : (i more : ℕ) (c rest : List C) (e : C) → length c ≡ child_items most n i → shares most n i (suc more) (c ++ e ∷ rest) ≡ c ∷ shares most n (i + 1) more rest
  shares_more i more c rest e size =
      let m = child_items most n i in
      let first : take m (c ++ e ∷ rest) ≡ c = take_at c (e ∷ rest) m size in
      let end : drop (suc m) (c ++ e ∷ rest) ≡ rest = behind c m size in
      let next : suc i ≡ i + 1 = omega arith in
      ap (λ l. l ∷ shares most n (suc i) more (drop (suc m) (c ++ e ∷ rest))) first
      ∙ ap (λ l. c ∷ shares most n (suc i) more l) end
      ∙ ap (λ j. c ∷ shares most n j more rest) next
    where
      behind : (c : List C) (m : ℕ) → length c ≡ m → drop (suc m) (c ++ e ∷ rest) ≡ rest
      behind c m is = ap (drop (suc m)) (sym (append_assoc c (e ∷ []) rest)) ∙ drop_at (c ++ e ∷ []) rest (suc m) (omega (arith, length-append c (e ∷ []), is))

  pub between_more : (i more : ℕ) (c rest : List C) (e : C) → length c ≡ child_items most n i → between most n i (suc more) (c ++ e ∷ rest) ≡ e ∷ between most n (i + 1) more rest
  between_more i more c rest e size =
      let m = child_items most n i in
      let first : drop m (c ++ e ∷ rest) ≡ e ∷ rest = drop_at c (e ∷ rest) m size in
      let end : drop (suc m) (c ++ e ∷ rest) ≡ rest = behind c m size in
      let next : suc i ≡ i + 1 = omega arith in
      ap (λ l. take 1 l ++ between most n (suc i) more (drop (suc m) (c ++ e ∷ rest))) first
      ∙ ap (λ l. e ∷ between most n (suc i) more l) end
      ∙ ap (λ j. e ∷ between most n j more rest) next
    where
      behind : (c : List C) (m : ℕ) → length c ≡ m → drop (suc m) (c ++ e ∷ rest) ≡ rest
      behind c m is = ap (drop (suc m)) (sym (append_assoc c (e ∷ []) rest)) ∙ drop_at (c ++ e ∷ []) rest (suc m) (omega (arith, length-append c (e ∷ []), is))

  -- what is below the next pointer, of which the first items have come
  pub record NextShare (i more : ℕ) (came others : List C) (m : ℕ) : Type 0 where
    pub rest : List C
    pub later : List (List C)
    pub is : shares most n i more (came ++ others) ≡ (came ++ rest) ∷ later
    pub size : length (came ++ rest) ≡ m

  pub next_share : (i more : ℕ) (came others : List C) (m : ℕ) → m ≡ child_items most n i → length came ≤ m → m + more ≤ length (came ++ others) → (more ≡ 0 → length (came ++ others) ≡ m)
      → NextShare i more came others m
  next_share i zero came others m e few room whole = record { rest = others; later = []; is = refl; size = whole refl }
  next_share i (suc more) came others m e few room whole =
      let both = came ++ others in
      let rest = take (m - length came) others in
      let long : length both ≡ length came + length others = length-append came others in
      let front : both ≡ (came ++ rest) ++ drop (m - length came) others =
      ap (λ l. came ++ l) (sym (take-append-drop (m - length came) others)) ∙ sym (append_assoc came rest (drop (m - length came) others))
      in
      let size : length (came ++ rest) ≡ m = length-append came rest ∙ omega (arith, length-take (m - length came) others, long, few, room) in
      let first : take m both ≡ came ++ rest = ap (take m) front ∙ take_at (came ++ rest) (drop (m - length came) others) m size in
      let j = child_items most n i in
      let of_child : take j both ≡ came ++ rest = ap (λ z. take z both) (sym e) ∙ first in
      record {
        rest = rest;
        later = shares most n (suc i) more (drop (suc j) both);
        is = ap (λ l. l ∷ shares most n (suc i) more (drop (suc j) both)) of_child;
        size = size;
      }
