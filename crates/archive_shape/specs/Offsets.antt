-- Offsets between positions, and what stored offsets are read as.
use Rattle.std.specs.Prelude.{◌≡◌, ℕ, ℤ, pos, ◌+ℤ◌, ◌-ℤ◌, List, FitsSigned}
use Rattle.std.specs.Int.{Width, w32, from_le_bytes, to_le_bytes, cast_signed, cast_unsigned}

-- the offset that leads from `from` to `to`
abbrev pub difference : ℕ → ℕ → ℤ
difference from to = pos to -ℤ pos from

-- an offset of 32 bits leads from a position to another
abbrev pub FitsOffset : ℕ → ℕ → Type 0
FitsOffset from to = FitsSigned w32 (difference from to)

-- the bytes of that offset
abbrev pub offset_bytes : ℕ → ℕ → List ℕ
offset_bytes from to = to_le_bytes w32 (cast_unsigned w32 (difference from to))

-- the number that a signed field's bytes are read as
abbrev pub signed_number : Width → List ℕ → ℤ
signed_number w own = cast_signed w (from_le_bytes w own)

-- the number that an unsigned field's bytes are read as
abbrev pub unsigned_number : Width → List ℕ → ℤ
unsigned_number w own = pos (from_le_bytes w own)

-- an offset from a position leads to a position
abbrev pub Leads : ℕ → ℤ → ℕ → Type 0
Leads from offset to = pos from +ℤ offset ≡ pos to
