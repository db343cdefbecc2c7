-- Which numbers are offsets.
use Rattle.std.proofs.Common.{ℕ, ℤ, pos, negsuc, ◌≤◌, ◌^◌, arith, SFits}
use Rattle.std.specs.Int.{w64, FitsUnsignedBits}

-- a number that fits an unsigned field of 63 bits at most is an `isize`
pub unsigned_fits : (k : ℕ) (z : ℤ) → 2 ^ k ≤ 2 ^ 63 → FitsUnsignedBits k z → SFits w64 z
unsigned_fits k (pos n) le fits = record { sfits = omega (arith, le, fits) }
unsigned_fits k (negsuc n) le fits = absurd fits
