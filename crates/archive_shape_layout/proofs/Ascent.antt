-- Ascent splits over an append, and regions that ascend do not overlap.
use Rattle.std.proofs.Common.{◌≡◌, ℕ, zero, suc, le_of_suc-le-suc, ◌+◌, ◌≤◌, List, [], ◌∷◌, ◌++◌, ◌↔◌, refl, arith, All, AllPairs, le_refl}
use Rattle.archive_shape_layout.specs.Laws.{IsBefore}
use Rattle.archive_shape_layout.specs.Holds.{Region, Ascends, end_after}

pub end_after-append : (low : ℕ) (xs ys : List Region) → end_after low (xs ++ ys) ≡ end_after (end_after low xs) ys
unfolding end_after
end_after-append low [] ys = refl
end_after-append low (r ∷ xs) ys = end_after-append (r.start + r.size) xs ys

pub Ascends-append : (low high : ℕ) (xs ys : List Region) → Ascends low high (xs ++ ys) ↔ (Ascends low high xs × Ascends (end_after low xs) high ys)
unfolding end_after Ascends
Ascends-append low high [] ys = (λ h. (tt, h), λ h. h.1)
Ascends-append low high (r ∷ xs) ys =
    let both = Ascends-append (r.start + r.size) high xs ys in
    (λ h. ((h.0, (both.0 h.1).0), (both.0 h.1).1), λ h. (h.0.0, both.1 (h.0.1, h.1)))

pub end_after-grows : (low high : ℕ) (xs : List Region) → Ascends low high xs → low ≤ end_after low xs
unfolding end_after Ascends
end_after-grows low high [] h = le_refl low
end_after-grows low high (r ∷ xs) h =
    let rest = end_after-grows (r.start + r.size) high xs h.1 in
    let first = h.0.after in
    omega arith

-- the last region ends below the bound
pub end_after-below : (low high : ℕ) (xs : List Region) → low ≤ high → Ascends low high xs → end_after low xs ≤ high
unfolding end_after Ascends
end_after-below low high [] below h = below
end_after-below low high (r ∷ xs) below h = end_after-below (r.start + r.size) high xs h.0.inside h.1

-- what comes after lies above
pub above_low : (low high : ℕ) (xs : List Region) → Ascends low high xs → All (λ r. low ≤ r.start) xs
unfolding Ascends
above_low low high [] h k d below = absurd (omega arith)
above_low low high (r ∷ xs) h zero d below = h.0.after
above_low low high (r ∷ xs) h (suc k) d below =
    let rest = above_low (r.start + r.size) high xs h.1 k d (le_of_suc-le-suc below) in
    let first = h.0.after in
    omega arith

pub ascends_apart : (low high : ℕ) (xs : List Region) → Ascends low high xs → AllPairs IsBefore xs
unfolding Ascends
ascends_apart low high [] h i j d less below = absurd (omega arith)
ascends_apart low high (r ∷ xs) h zero zero d less below = absurd (omega arith)
ascends_apart low high (r ∷ xs) h zero (suc j) d less below = above_low (r.start + r.size) high xs h.1 j d (le_of_suc-le-suc below)
ascends_apart low high (r ∷ xs) h (suc i) zero d less below = absurd (omega arith)
ascends_apart low high (r ∷ xs) h (suc i) (suc j) d less below =
    ascends_apart (r.start + r.size) high xs h.1 i j d (le_of_suc-le-suc less) (le_of_suc-le-suc below)
