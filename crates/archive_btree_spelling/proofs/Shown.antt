-- The search tree that is written is packed, and has the items that it is written for.
use Rattle.std.proofs.Common.{◌≡◌, ◌∙◌, ℕ, zero, suc, ◌+◌, ◌<◌, ◌≤◌, nat_le, cond, Bool, true, false, List, [], ◌∷◌, ◌++◌, length, map, refl, ap, ap₂, sym, subst, arith, leb-true}
use Rattle.std.proofs.lemmas.Bool.Decides.{nat_tests}
use Rattle.std.proofs.Math.Nat.{pow-zero}
use Rattle.archive_shape_canonical.specs.Packed.{full, levels_for}
use Rattle.archive_btree_layout.specs.Tree.{Tree, items, items_of, entries_of}
use Rattle.archive_btree_spelling.specs.Parted.{Parted, shares, between}
use Rattle.archive_btree_spelling.specs.Shown.{branches, node_of, tree_of}
use Rattle.archive_btree_spelling.proofs.Levels.{levels_hold, above}
use Rattle.archive_btree_spelling.proofs.Shares.{IsWoven, AreShares, AreLow, Shared, shared}
use Rattle.archive_btree_spelling.proofs.Divided.{IsDivided, AreDivided, packed_divided}
use Rattle.archive_btree_spelling.specs.Laws.{TreesArePacked}

-- ---- items

module _ {C : Type 0} (most : ℕ) where
  items_woven : (l : ℕ) (each : (c : List C) → levels_for most (length c) ≤ l → items (tree_of most l c) ≡ c) (n : ℕ) (xs : List C) (xss : List (List C)) (es : List C)
      → IsWoven xs xss es → AreLow most n l xss → items_of (branches (map (λ c. tree_of most l c) xss) es) ≡ xs
  items_woven l each n xs [] es h low = absurd h
  items_woven l each n xs (c ∷ []) [] h low = each c low.0 ∙ sym h
  items_woven l each n xs (c ∷ []) (e ∷ es) h low = absurd h
  items_woven l each n xs (c ∷ (d ∷ ds)) [] h low = absurd h
  items_woven l each n xs (c ∷ (d ∷ ds)) (e ∷ es) h low =
      ap₂ (λ x y. x ++ e ∷ y) (each c low.0) (items_woven l each n h.0 (d ∷ ds) es h.2 low.1) ∙ sym h.1

  pub items_shown : (l : ℕ) (xs : List C) → 0 < most → levels_for most (length xs) ≤ l → items (tree_of most l xs) ≡ xs
  items_shown zero [] some within = refl
  items_shown zero (x ∷ xs) some within =
      let none : levels_for most (length (x ∷ xs)) ≡ 0 = omega (arith, within) in
      let h : length (x ∷ xs) ≤ full most 0 = subst (λ z. length (x ∷ xs) ≤ full most z) none (levels_hold most (length (x ∷ xs)) some) in
      absurd (omega (arith, h, pow-zero (most + 1)))
  items_shown (suc l) [] some within = refl
  items_shown (suc l) (x ∷ xs) some within = tested (nat_le (length (x ∷ xs)) most) refl (λ c low. items_shown l c some low)
    where
      tested : (b : Bool) → nat_le (length (x ∷ xs)) most ≡ b → ((c : List C) → levels_for most (length c) ≤ l → items (tree_of most l c) ≡ c)
          → (let p = cond {A = Parted C} b (record { kind = 0; below = []; own = x ∷ xs }) (record { kind = 1; below = shares most (length (x ∷ xs)) 0 most (x ∷ xs); own = between most (length (x ∷ xs)) 0 most (x ∷ xs) }) in
          items (node_of p.kind (map (λ c. tree_of most l c) p.below) p.own) ≡ x ∷ xs)
      tested true e each = refl
      tested false e each =
          let n = length (x ∷ xs) in
          let parts : Shared most n 0 most l (x ∷ xs) = shared most n l (x ∷ xs) some (above n most e) refl within in
          items_woven l each n (x ∷ xs) (shares most n 0 most (x ∷ xs)) (between most n 0 most (x ∷ xs)) parts.woven parts.are_low

  -- ---- below each pointer

  entries_shown : (ts : List (Tree C)) (es : List C) → length ts ≡ suc (length es) → entries_of (branches ts es) ≡ es
  entries_shown [] es e = absurd (omega (arith, e))
  entries_shown (t ∷ ts) [] e = refl
  entries_shown (t ∷ ts) (x ∷ es) e = ap (λ z. x ∷ z) (entries_shown ts es (omega (arith, e)))

  length-trees : (l : ℕ) (xss : List (List C)) → length (map (λ c. tree_of most l c) xss) ≡ length xss
  length-trees l [] = refl
  length-trees l (c ∷ xss) = ap suc (length-trees l xss)

  divided_woven : (l : ℕ) → 0 < most → (each : (c : List C) → levels_for most (length c) ≤ l → IsDivided most (tree_of most l c)) (n i : ℕ) (xss : List (List C)) (es : List C)
      → length xss ≡ suc (length es) → AreShares most n i xss → AreLow most n l xss → AreDivided most n i (branches (map (λ c. tree_of most l c) xss) es)
  divided_woven l some each n i [] es e s low = absurd (omega (arith, e))
  divided_woven l some each n i (c ∷ []) [] e s low = (ap length (items_shown l c some low.0) ∙ s.0, each c low.0)
  divided_woven l some each n i (c ∷ (d ∷ ds)) [] e s low = absurd (omega (arith, e))
  divided_woven l some each n i (c ∷ xss) (x ∷ es) e s low =
      let index : i + 1 ≡ suc i = omega arith in (
        ap length (items_shown l c some low.0) ∙ s.0,
        each c low.0,
        divided_woven l some each n (suc i) xss es (omega (arith, e)) (subst (λ z. AreShares most n z xss) index s.1) low.1,
      )

  pub divided_shown : (l : ℕ) (xs : List C) → 0 < most → levels_for most (length xs) ≤ l → IsDivided most (tree_of most l xs)
  divided_shown zero xs some within = tt
  divided_shown (suc l) [] some within = tt
  divided_shown (suc l) (x ∷ xs) some within = tested (nat_le (length (x ∷ xs)) most) refl (λ c low. divided_shown l c some low)
    where
      tested : (b : Bool) → nat_le (length (x ∷ xs)) most ≡ b → ((c : List C) → levels_for most (length c) ≤ l → IsDivided most (tree_of most l c))
          → (let p = cond {A = Parted C} b (record { kind = 0; below = []; own = x ∷ xs }) (record { kind = 1; below = shares most (length (x ∷ xs)) 0 most (x ∷ xs); own = between most (length (x ∷ xs)) 0 most (x ∷ xs) }) in
          IsDivided most (node_of p.kind (map (λ c. tree_of most l c) p.below) p.own))
      tested true e each = (omega arith, leb-true (length (x ∷ xs)) most e)
      tested false e each =
          let n = length (x ∷ xs) in
          let xss = shares most n 0 most (x ∷ xs) in
          let es = between most n 0 most (x ∷ xs) in
          let more = above n most e in
          let parts : Shared most n 0 most l (x ∷ xs) = shared most n l (x ∷ xs) some more refl within in
          let own = parts.own in
          let pointers = parts.pointers in
          let all : items_of (branches (map (λ c. tree_of most l c) xss) es) ≡ x ∷ xs =
          items_woven l (λ c low. items_shown l c some low) n (x ∷ xs) xss es parts.woven parts.are_low
          in
          let count = sym (ap length all) in (
            subst (λ z. most < z) count more,
            ap length (entries_shown (map (λ c. tree_of most l c) xss) es (length-trees l xss ∙ omega (arith, own, pointers))) ∙ own,
            subst (λ z. AreDivided most z 0 (branches (map (λ c. tree_of most l c) xss) es)) count
                (divided_woven l some each n 0 xss es (omega (arith, own, pointers)) parts.are_shares parts.are_low),
          )

pub trees_are_packed_law : TreesArePacked
trees_are_packed_law most xs some items_some =
    let levels = levels_for most (length xs) in
    let same = items_shown most levels xs some (omega arith) in
    let count = ap length same in
    (packed_divided most (tree_of most levels xs) some (omega (arith, count, items_some)) (divided_shown most levels xs some (omega arith)), same)
