-- The range that a check keeps: the bytes that may still be claimed, and how many regions may nest.
use Rattle.std.specs.Prelude.{ℕ, ◌+◌, ◌≤◌}

pub record Range : Type 0 where
  pub start : ℕ
  pub end : ℕ
  -- how many regions may nest
  pub most : ℕ
  -- the number of regions that the range lies inside
  pub level : ℕ

-- n bytes at a position lie in the range
pub record InRange (k : Range) (pos size : ℕ) : Type 0 where
  pub begins : k.start ≤ pos
  pub ends : pos + size ≤ k.end

-- narrowed to the part before a region that begins at a position, and one level deeper
abbrev pub narrowed_to : Range → ℕ → Range
narrowed_to k pos = record { start = k.start; end = pos; most = k.most; level = k.level + 1 }

-- started again at a position
abbrev pub started_at : Range → ℕ → Range
started_at k pos = record { start = pos; end = k.end; most = k.most; level = k.level }
