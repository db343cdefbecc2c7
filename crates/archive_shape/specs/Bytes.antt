-- Bytes at a position.
use Rattle.std.specs.Prelude.{◌≡◌, ℕ, ◌+◌, ◌≤◌, List, ◌++◌, length, take, drop, replicate}
use Rattle.archive_shape_layout.specs.Bytes.{window}
use Rattle.archive_shape_layout.specs.Edit.{Spares}

-- a piece lies at a position
abbrev pub HasBytes : List ℕ → ℕ → List ℕ → Type 0
HasBytes bytes pos piece = window bytes pos (length piece) ≡ piece

abbrev pub zeros : ℕ → List ℕ
zeros n = replicate n 0

-- the bytes with a piece at a position in place of the bytes that were there
abbrev pub overwrite : List ℕ → ℕ → List ℕ → List ℕ
overwrite bytes at piece = take at bytes ++ (piece ++ drop (at + length piece) bytes)

-- bytes that are written at a position are found there, and those outside are unchanged
pub record IsOverwritten (bytes : List ℕ) (pos : ℕ) (piece : List ℕ) : Type 0 where
  pub stands : window (overwrite bytes pos piece) pos (length piece) ≡ piece
  pub spares : Spares bytes (overwrite bytes pos piece) pos (length piece)

abbrev pub OverwriteSpares : Type 0
OverwriteSpares = (bytes : List ℕ) (pos : ℕ) (piece : List ℕ) → pos + length piece ≤ length bytes → IsOverwritten bytes pos piece
