-- Bytes at a position, and the numbers that they spell. All numbers are little endian.
use Rattle.std.specs.Prelude.{ℕ, ◌+◌, ◌-◌, ◌%◌, ◌^◌, ◌≤◌, cond, nat_le, nat_lt, List, take, drop, Option, Some, None}
use Rattle.std.specs.Int.{w32, from_le_bytes}

-- the `size` bytes from a position on
abbrev pub window : List ℕ → ℕ → ℕ → List ℕ
window bytes pos size = take size (drop pos bytes)

-- the least multiple of `align` that is at least `pos`
unfoldable pub align_up : ℕ → ℕ → ℕ
align_up pos align = pos + (align - pos % align) % align

-- the u32 at a position
unfoldable pub word_at : List ℕ → ℕ → ℕ
word_at bytes pos = from_le_bytes w32 (drop pos bytes)

-- where the offset `word` leads from a position: the u32 represents a signed number, its top half those below 0; none
-- where that is before position 0
unfoldable pub target_from : ℕ → ℕ → Option ℕ
target_from pos word =
    cond
    (nat_lt word (2 ^ 31))
    (Some (pos + word))
    (cond (nat_le (2 ^ 32 - word) pos) (Some (pos - (2 ^ 32 - word))) None)

-- an index is not in a range: it is before the range or after it
abbrev pub IsOutside : ℕ → ℕ → ℕ → Type 0
IsOutside from to i = from ≤ i → to ≤ i
