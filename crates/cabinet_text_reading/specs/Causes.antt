-- The first of some causes, in the order in which they are checked.
use Rattle.std.specs.Prelude.{ℕ, ◌<◌, true, List, Option, Some, slice_get}
use Rattle.cabinet_text_grammar.specs.Due.{Due}
use Rattle.cabinet_text_grammar.specs.Fault.{Piece, pieces_of, HasDueCause, IsFirstCause, rank}
use Rattle.cabinet_text_grammar.specs.Reading.{Reading, reading}
use Rattle.cabinet_text_grammar.specs.declared.cause.Cause.{Cause}

pub record IsFirstOf (has : Cause → Type 0) (cause : Cause) : Type 0 where
  pub has_cause : has cause
  pub first : (other : Cause) → rank other < rank cause → has other → ⊥

-- a line, with the newline that ends it, as the next piece of a text
abbrev pub a_line : List ℕ → Option Piece
a_line bytes = Some (record { bytes = bytes; ended = true })

-- the next piece of a text, if there is one
abbrev pub next_piece : List ℕ → Option Piece
next_piece rest = slice_get (pieces_of rest) 0

-- the first cause that applies to a piece where this line is expected
abbrev pub IsFaultAt : Due → Option Piece → Cause → Type 0
IsFaultAt due piece = IsFirstOf (HasDueCause due piece)

-- the first cause that applies to a line after what was read, also what is asked of the tree that it completes
abbrev pub IsFaultAfter : Reading → (line : List ℕ) → Cause → Type 0
IsFaultAfter r line = IsFirstCause (reading r) (a_line line)
