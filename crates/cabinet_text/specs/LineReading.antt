-- Where a reader of lines is in its input, and what it finds there.
use Rattle.std.specs.Prelude.{◌≡◌, ℕ, ◌+◌, ◌≤◌, Bool, true, false, IsTrue, MatchBool, List, [], ◌∷◌, ◌++◌, length, drop, Result, MatchResult}
use Rattle.cabinet_text.specs.Failures.{ReaderFails}
use Rattle.cabinet_text.specs.Input.{lines_of, longest_input, newlines, begun_in, IsMet}
use Rattle.cabinet_text.specs.declared.session.RunCause.{RunCause}
use Rattle.cabinet_text.specs.declared.source.Source.{Ghosts}

-- a reader of lines after some calls
pub record LinesRead : Type 0 where
  -- the number of bytes of the source that belong to lines up to now
  pub total : ℕ
  -- the bytes that were read after these
  pub unread : List ℕ
  -- the line that was found last
  pub line : List ℕ
  -- no line is left
  pub ended : Bool

abbrev pub no_line_read : LinesRead
no_line_read = record { total = 0; unread = []; line = []; ended = false }

-- the lines before were found, and the source has some bytes left
pub data IsAt (input left : List ℕ) (lines : ℕ) (r : LinesRead) : Type 0 where
  behind_line :
      (given : List ℕ)
      → input ≡ given ++ (r.unread ++ left)
      → r.total ≡ length given
      → lines ≡ newlines given
      → begun_in given ≡ []
      → r.ended ≡ false
      → IsAt input left lines r
  at_end :
      r.ended ≡ true
      → drop lines (lines_of input) ≡ []
      → length input ≤ longest_input
      → IsAt input left lines r

-- the next line of the input was found
pub record FindsNext (input left : List ℕ) (lines : ℕ) (r : LinesRead) : Type 0 where
  pub later : List (List ℕ)
  pub next : drop lines (lines_of input) ≡ r.line ∷ later
  pub behind : IsAt input left (lines + 1) r

-- there is no further one
pub record FindsNone (input : List ℕ) (lines : ℕ) : Type 0 where
  pub none : drop lines (lines_of input) ≡ []
  pub short : length input ≤ longest_input

-- the next line is found if there is one, or the input has a fault
abbrev pub FindsLine : {R : Type 0} → Ghosts R → (before after : LinesRead) (early late : R) → Result Bool RunCause → Type 0
FindsLine r before after early late result =
    IsTrue r.OBSERVABLE → (input : List ℕ) (lines : ℕ) → IsAt input (r.left early) lines before
    → MatchResult result
    (λ more. MatchBool more (FindsNext input (r.left late) lines after) (FindsNone input lines))
    (λ cause. IsMet cause input (r.left late) lines)

-- the reader failed once if that is the cause, and otherwise never
abbrev pub ReaderEndsCall : {R A : Type 0} → Ghosts R → (early late : R) → Result A RunCause → Type 0
ReaderEndsCall r early late result =
    MatchResult result (λ _. r.failures late ≡ r.failures early) (λ cause. ReaderFails cause (r.failures early) (r.failures late))
