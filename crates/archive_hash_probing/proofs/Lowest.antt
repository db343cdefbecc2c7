-- The lowest of some marks, and the others.
use Rattle.std.proofs.Common.{◌≡◌, ◌≢◌, ℕ, zero, suc, ◌+◌, ◌<◌, Bool, true, false, not, List, [], ◌∷◌, length, get_or, refl, sym, ap, ◌∙◌, arith, true≢false}
use Rattle.std.specs.List.{prefix_len}
use lib.Lanes.{mask_l}
use Rattle.archive_hash_probing.specs.Marks.{without_first}

pub lowest_marked : (ms : List Bool) → 0 < mask_l ms → get_or ms (prefix_len not ms) false ≡ true
lowest_marked [] h = absurd (omega arith)
lowest_marked (true ∷ ms) h = refl
lowest_marked (false ∷ ms) h = step (prefix_len not ms) (lowest_marked ms (omega arith))
  where
    step : (n : ℕ) → get_or ms n false ≡ true → get_or (false ∷ ms) (1 + n) false ≡ true
    step n e = let s : 1 + n ≡ suc n = omega arith in ap (λ k. get_or (false ∷ ms) k false) s ∙ e

pub below_unmarked : (ms : List Bool) (j : ℕ) → j < prefix_len not ms → get_or ms j false ≡ false
below_unmarked [] j h = refl
below_unmarked (true ∷ ms) j h = absurd (omega arith)
below_unmarked (false ∷ ms) zero h = refl
below_unmarked (false ∷ ms) (suc j) h = below_unmarked ms j (omega arith)

pub still_marked : (ms : List Bool) (k : ℕ) → get_or (without_first ms) k false ≡ true → get_or ms k false ≡ true
still_marked [] k e = e
still_marked (true ∷ ms) zero e = refl
still_marked (true ∷ ms) (suc k) e = e
still_marked (false ∷ ms) zero e = e
still_marked (false ∷ ms) (suc k) e = still_marked ms k e

pub other_marked : (ms : List Bool) (k : ℕ) → get_or ms k false ≡ true → k ≢ prefix_len not ms → get_or (without_first ms) k false ≡ true
other_marked [] k e n = e
other_marked (true ∷ ms) zero e n = absurd (n refl)
other_marked (true ∷ ms) (suc k) e n = e
other_marked (false ∷ ms) zero e n = e
other_marked (false ∷ ms) (suc k) e n = other_marked ms k e (λ same. n (omega (arith, same)))

pub length-without_first : (ms : List Bool) → length (without_first ms) ≡ length ms
length-without_first [] = refl
length-without_first (true ∷ ms) = refl
length-without_first (false ∷ ms) = ap suc (length-without_first ms)

pub none_marked : (ms : List Bool) (k : ℕ) → mask_l ms ≡ 0 → get_or ms k false ≡ true → ⊥
none_marked [] k z e = true≢false (sym e)
none_marked (true ∷ ms) k z e = omega arith
none_marked (false ∷ ms) zero z e = true≢false (sym e)
none_marked (false ∷ ms) (suc k) z e = none_marked ms k (omega arith) e

pub fewer_marked : (ms : List Bool) → 0 < mask_l ms → mask_l (without_first ms) < mask_l ms
fewer_marked [] some = absurd (omega arith)
fewer_marked (true ∷ ms) some = omega arith
fewer_marked (false ∷ ms) some = omega (arith, fewer_marked ms (omega arith))
