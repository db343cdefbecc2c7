-- A region that is claimed.
use Rattle.std.specs.Prelude.{◌≡◌, ℕ, ◌+◌, ◌-◌, ◌^◌, min}
use Rattle.archive_shape_layout.specs.Content.{Span}
use Rattle.archive_shape.specs.Questions.{AreAnswered, claim}
use Rattle.archive_shape.specs.Kept.{Kept, range_of, pushed}
use Rattle.archive_shape.specs.declared.checking.context.PushedRange.{PushedRange}

-- a number as a usize, which stops at the greatest
abbrev pub as_usize : ℕ → ℕ
as_usize n = min n (2 ^ 64 - 1)

-- a region is claimed, and the range is narrowed to what lies before it
pub record IsClaimed (old : Kept) (s : Span) (r : PushedRange) (new : Kept) : Type 0 where
  pub answered : AreAnswered (range_of old) (claim s)
  pub range : r ≡ record { pos = s.start; end = s.start + s.size; outer = old.end }
  pub narrowed : new ≡ pushed old r
