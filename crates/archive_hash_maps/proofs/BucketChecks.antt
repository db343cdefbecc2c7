-- The claim of a table's buckets and controls, and what these have.
use Rattle.std.proofs.Common.{◌≡◌, ◌≢◌, ℕ, ◌+◌, ◌-◌, ◌*◌, ◌<◌, ◌≤◌, ◌^◌, min, Ok, Err, Result, refl, ap, subst, arith}
use Rattle.std.specs.Prelude.{MatchResult}
use Rattle.std.proofs.lemmas.Bool.{le-leb, leb-true}
use Rattle.archive_shape_layout.specs.Shape.{Shape, size_of, align_of}
use Rattle.archive_shape_layout.specs.Content.{item, control_count, buckets_span}
use Rattle.archive_shape.specs.Range.{Range}
use Rattle.archive_shape.specs.Questions.{FirstUnanswered}
use Rattle.archive_shape.specs.Questions.FirstUnanswered.{unanswered_here, unanswered_later}
use Rattle.archive_shape.specs.Kept.{Kept, range_of}
use Rattle.archive_shape.specs.declared.checking.context.PushedRange.{PushedRange}
use Rattle.archive_shape_layout.specs.declared.error.Error.{Error}
use Rattle.archive_shape_layout.specs.declared.error.Error.TheVariants.{OutOfMemory, InvalidSubtreePointer}
use Rattle.archive_forms_values.proofs.Claiming.{ClaimOutcome}
use Rattle.archive_hash_maps.specs.Buckets.{AreClaimed, claim_of_buckets}

module _ (target cap : ℕ) (s : Shape) where
  -- the buckets begin before the first byte
  pub buckets_astray : (range : Range) (size : ℕ) → target < cap * size_of s → size ≡ min (cap * size_of s + control_count cap) (2 ^ 64 - 1) → FirstUnanswered range (InvalidSubtreePointer size) (claim_of_buckets target cap (item s))
  unfolding buckets_span
  buckets_astray range size less is =
      unanswered_here (λ e. let most : cap * size_of s ≤ target = leb-true (cap * size_of s) target e in omega arith) (ap InvalidSubtreePointer is)

  -- they do not, and the claim decides
  claim_decides :
      (k l : Kept) (result : Result PushedRange Error) → cap * size_of s ≤ target → ClaimOutcome k l (buckets_span target cap (item s)) result
      → MatchResult result
      (λ r. AreClaimed target cap (item s) k r l)
      (λ e. e ≢ OutOfMemory → FirstUnanswered (range_of k) e (claim_of_buckets target cap (item s)))
  claim_decides k l (Ok r) below h = record { below = below; claimed = h }
  claim_decides k l (Err e) below h = λ other. unanswered_later (le-leb (cap * size_of s) target below) (h other)

  span_is : (start align : ℕ) → start ≡ target - cap * size_of s → align ≡ align_of s → record { start = start; size = cap * size_of s + control_count cap; align = align } ≡ buckets_span target cap (item s)
  unfolding buckets_span
  span_is start align e f = rw (e, f) refl

  -- by the results of a context, one of which is for sizes that are at most `usize::MAX`
  pub buckets_claimed :
      (k l : Kept) (result : Result PushedRange Error) (below align : ℕ)
      → below ≡ min (cap * size_of s) (2 ^ 64 - 1) → below ≤ target → target < 2 ^ 64 - 1 → align ≡ align_of s
      → ClaimOutcome k l (record { start = target - below; size = cap * size_of s + control_count cap; align = align }) result
      → MatchResult result
      (λ r. AreClaimed target cap (item s) k r l)
      (λ e. e ≢ OutOfMemory → FirstUnanswered (range_of k) e (claim_of_buckets target cap (item s)))
  buckets_claimed k l result below align cut fits small aligned h =
      claim_decides k l result (omega arith)
      (subst (λ x. ClaimOutcome k l x result) (span_is (target - below) align (omega arith) aligned) h)
