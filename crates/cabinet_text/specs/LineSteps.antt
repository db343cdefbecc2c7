-- How far a reader of lines is within a line, and what it does with the next bytes.
use Rattle.std.specs.Prelude.{◌≡◌, ℕ, ◌+◌, ◌-◌, ◌<◌, List, [], ◌∷◌, ◌++◌, length, take, drop, Option, IfOk, MatchOption, Result}
use Rattle.cabinet_text.specs.Input.{newlines, begun_in, IsMet}
use Rattle.cabinet_text.specs.declared.session.RunCause.{RunCause}

-- the bytes from one index up to another
abbrev pub bytes_between : (start end : ℕ) → List ℕ → List ℕ
bytes_between start end bytes = take (end - start) (drop start bytes)

-- the line found last: what was begun, or else the part of the piece
abbrev pub line_in : (begun here : List ℕ) → List ℕ
line_in [] here = here
line_in (b ∷ bs) here = b ∷ bs

-- The lines before were found, and the line begun is the bytes after them.
pub record Progress (input : List ℕ) (lines : ℕ) (begun : List ℕ) (total : ℕ) (rest : List ℕ) : Type 0 where
  pub given : List ℕ
  pub input_is : input ≡ given ++ rest
  pub total_is : total ≡ length given
  pub lines_are : lines ≡ newlines given
  pub begun_is : begun ≡ begun_in given

-- bytes are appended to the line begun
pub record GoesOn (line : List ℕ) (total : ℕ) (bytes line' : List ℕ) (total' : ℕ) : Type 0 where
  pub longer : line' ≡ line ++ bytes
  pub more : total' ≡ total + length bytes

-- the rest of a line and its newline are taken; without a beginning the line stays where it is
pub record EndsLine (line : List ℕ) (total : ℕ) (rest line' : List ℕ) (total' : ℕ) : Type 0 where
  pub whole : line_in line' rest ≡ line ++ rest
  pub more : total' ≡ total + (length rest + 1)

-- the first newline of bytes is at an index
pub record EndsAt (bytes : List ℕ) (end : ℕ) : Type 0 where
  pub inside : end < length bytes
  pub clean : newlines (take end bytes) ≡ 0
  pub parts : bytes ≡ take end bytes ++ 10 ∷ drop (end + 1) bytes

-- the input has the fault, if its next bytes are these
abbrev pub FailsIn : (line : List ℕ) (total : ℕ) (bytes : List ℕ) → RunCause → Type 0
FailsIn line total bytes cause =
    (input left more : List ℕ) (lines : ℕ) → Progress input lines line total (bytes ++ more) → IsMet cause input left lines

-- a line that ends in the bytes, or all of them and no newline
abbrev pub TakesBytes : (line : List ℕ) (total : ℕ) (bytes line' : List ℕ) (total' : ℕ) → Result (Option ℕ) RunCause → Type 0
TakesBytes line total bytes line' total' result =
    IfOk result
    (λ found. MatchOption found
    ((newlines bytes ≡ 0) × GoesOn line total bytes line' total')
    (λ end. EndsAt bytes end × EndsLine line total (take end bytes) line' total'))
