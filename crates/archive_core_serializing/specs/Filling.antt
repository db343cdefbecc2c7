-- The effect of a write into memory of a fixed length, of which `len` bytes are filled.
use Rattle.std.specs.Prelude.{◌≡◌, ℕ, ◌+◌, ◌<◌, ◌≤◌, List, length}
use Rattle.archive_shape.specs.Bytes.{overwrite}
use Rattle.archive_shape_layout.specs.declared.error.Error.{Error}
use Rattle.archive_shape_layout.specs.declared.error.Error.TheVariants.{BufferOverflow}

module _ (old : List ℕ) (len : ℕ) (piece : List ℕ) (new : List ℕ) (new_len : ℕ) where
  -- the piece fits, and is after what is filled; what is after the piece stays
  pub record IsFilled : Type 0 where
    pub fits : len + length piece ≤ length old
    pub stands : new ≡ overwrite old len piece
    pub moves : new_len ≡ len + length piece

  -- the piece is more than the rest, and nothing is written
  pub record IsOverfull (e : Error) : Type 0 where
    pub is_more : length old < len + length piece
    pub names : e ≡ BufferOverflow
    pub stays : new ≡ old
    pub keeps : new_len ≡ len
