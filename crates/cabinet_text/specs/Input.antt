-- The lines of an input, and what is wrong where a session ends before all of them are carried out.
use Rattle.std.specs.Prelude.{◌≡◌, ◌≢◌, ℕ, ◌+◌, ◌<◌, ◌≤◌, ◌==◌, if◌then◌else◌, List, [], ◌∷◌, ◌++◌, length, take, drop, count_by, ⊤}
use Rattle.cabinet_text.specs.declared.session.RunCause.{RunCause}
use Rattle.cabinet_text.specs.declared.session.RunCause.TheVariants.{Read, Write, OutOfMemory, LineTooLong, InputTooLong}

abbrev pub onto_first : ℕ → List (List ℕ) → List (List ℕ)
onto_first b [] = (b ∷ []) ∷ []
onto_first b (line ∷ lines) = (b ∷ line) ∷ lines

-- the pieces between newlines; a last piece that is not empty is a line too
abbrev pub lines_of : List ℕ → List (List ℕ)
lines_of [] = []
lines_of (b ∷ bs) = if b == 10 then [] ∷ lines_of bs else onto_first b (lines_of bs)

-- the maximum number of bytes of a line and of an input
abbrev pub longest_line : ℕ
longest_line = 1048576

abbrev pub longest_input : ℕ
longest_input = 4294967295

abbrev pub newlines : List ℕ → ℕ
newlines bytes = count_by (λ b. b == 10) bytes

-- the bytes after the last newline
abbrev pub line_begun : List ℕ → List ℕ → List ℕ
line_begun begun [] = begun
line_begun begun (b ∷ bs) = if b == 10 then line_begun [] bs else line_begun (begun ++ b ∷ []) bs

abbrev pub begun_in : List ℕ → List ℕ
begun_in bytes = line_begun [] bytes

-- The next line was not carried out, and has bytes: an allocation for it failed.
pub record IsMemoryRefused (input : List ℕ) (lines : ℕ) : Type 0 where
  pub line : List ℕ
  pub later : List (List ℕ)
  pub left : drop lines (lines_of input) ≡ line ∷ later
  pub some : line ≢ []

-- Each whole line of the bytes that the source gave was carried out.
pub record IsReadFault (input left : List ℕ) (lines : ℕ) : Type 0 where
  pub given : List ℕ
  pub input_is : input ≡ given ++ left
  pub lines_are : lines ≡ newlines given

-- A line exceeds the limit of a line, and the first byte past that limit is not after the first byte past the limit of
-- the input.
pub record IsLineTooLong (input : List ℕ) (lines : ℕ) : Type 0 where
  pub given : List ℕ
  pub rest : List ℕ
  pub input_is : input ≡ given ++ rest
  pub within : length given ≤ longest_input + 1
  pub long : longest_line < length (begun_in given)
  pub lines_are : lines ≡ newlines given

-- The input exceeds its limit, the line of the first byte past the limit does not exceed the limit of a line up to that
-- byte, and each line that ends before that byte was carried out.
pub record IsInputTooLong (input : List ℕ) (lines : ℕ) : Type 0 where
  pub long : longest_input < length input
  pub no_long_line : length (begun_in (take (longest_input + 1) input)) ≤ longest_line
  pub lines_are : lines ≡ newlines (take longest_input input)

-- the condition on the input when a session ends by a fault; a failed write has none
abbrev pub IsMet : RunCause → (input left : List ℕ) → ℕ → Type 0
IsMet Read input left lines = IsReadFault input left lines
IsMet Write input left lines = ⊤
IsMet OutOfMemory input left lines = IsMemoryRefused input lines
IsMet LineTooLong input left lines = IsLineTooLong input lines
IsMet InputTooLong input left lines = IsInputTooLong input lines
