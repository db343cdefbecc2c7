-- Buffers in which numbers are written.
use Rattle.std.specs.Prelude.{ℕ, zero, suc, ◌*◌, ℤ, pos, ◌+ℤ◌, List}
use Rattle.std.specs.Int.{w64, to_le_bytes, cast_unsigned, int_wrap}
use Rattle.archive_shape.specs.Bytes.{overwrite}

-- the bytes with an i64 at a position
abbrev pub with_i64 : List ℕ → ℕ → ℤ → List ℕ
with_i64 bytes at n = overwrite bytes at (to_le_bytes w64 (cast_unsigned w64 n))

-- the bytes with n numbers side by side, the first of which is given and each of which is one more than the one before
abbrev pub with_i64s : List ℕ → ℤ → ℕ → List ℕ
with_i64s bytes first zero = bytes
with_i64s bytes first (suc n) = with_i64 (with_i64s bytes first n) (n * 8) (int_wrap w64 (first +ℤ pos n))
