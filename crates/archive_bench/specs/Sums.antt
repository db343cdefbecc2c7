-- Sums of numbers in a buffer.
use Rattle.std.specs.Prelude.{ℕ, zero, suc, ◌+◌, nat_lt, cond, ℤ, pos, negsuc, ◌+ℤ◌, ◌^◌, List}
use Rattle.std.specs.Int.{w32, w64, from_le_bytes}
use Rattle.archive_shape_layout.specs.Bytes.{window}
use Rattle.archive_shape.specs.Offsets.{signed_number}

-- the i64 and the u32 at a position
abbrev pub i64_at : List ℕ → ℕ → ℤ
i64_at bytes at = signed_number w64 (window bytes at 8)

abbrev pub u32_at : List ℕ → ℕ → ℕ
u32_at bytes at = from_le_bytes w32 (window bytes at 4)

-- a position, or 0 for a number that is not a position
abbrev pub position_or_zero : ℤ → ℕ
position_or_zero (pos n) = cond (nat_lt n (2 ^ 64)) n 0
position_or_zero (negsuc n) = 0

-- the position that the relative pointer of four bytes at a position points to, or 0
abbrev pub target_at : List ℕ → ℕ → ℕ
target_at bytes at = position_or_zero (pos at +ℤ signed_number w32 (window bytes at 4))

-- the sum of the terms below an index
abbrev pub sum_below : (ℕ → ℕ) → ℕ → ℕ
sum_below term zero = 0
sum_below term (suc n) = sum_below term n + term n

abbrev pub signed_sum_below : (ℕ → ℤ) → ℕ → ℤ
signed_sum_below term zero = pos 0
signed_sum_below term (suc n) = signed_sum_below term n +ℤ term n
