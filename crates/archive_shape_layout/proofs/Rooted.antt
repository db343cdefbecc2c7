-- The regions of a root.
use Rattle.std.proofs.Common.{◌≡◌, ℕ, zero, suc, le_of_suc-le-suc, ◌+◌, ◌%◌, ◌≤◌, List, [], ◌∷◌, length, refl, arith, All}
use Rattle.archive_shape_layout.specs.Content.{pointee_content}
use Rattle.archive_shape_layout.specs.Laws.{RootRegions}
use Rattle.archive_shape_layout.specs.Holds.{Region, Ascends}
use Rattle.archive_shape_layout.proofs.Unique.{by_claimed}

pub inside_high : (low high : ℕ) (rs : List Region) → Ascends low high rs → All (λ r. r.start + r.size ≤ high) rs
unfolding Ascends
inside_high low high [] a k d below = absurd (omega arith)
inside_high low high (r ∷ rs) a zero d below = a.0.inside
inside_high low high (r ∷ rs) a (suc k) d below = inside_high (r.start + r.size) high rs a.1 k d (le_of_suc-le-suc below)

pub all_aligned : (low high : ℕ) (rs : List Region) → Ascends low high rs → All (λ r. r.start % r.align ≡ 0) rs
unfolding Ascends
all_aligned low high [] a k d below = absurd (omega arith)
all_aligned low high (r ∷ rs) a zero d below = a.0.aligned
all_aligned low high (r ∷ rs) a (suc k) d below = all_aligned (r.start + r.size) high rs a.1 k d (le_of_suc-le-suc below)

pub root_law : RootRegions
unfolding pointee_content
root_law names bytes pos s v regions visits root =
    let own = by_claimed names bytes refl root.holds in
    record {
      inside = inside_high 0 (length bytes) regions root.ascends;
      aligned = all_aligned 0 (length bytes) regions root.ascends;
      others = own.within;
      last = own.regions_are;
    }
