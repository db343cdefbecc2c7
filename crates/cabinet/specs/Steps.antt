-- What the lines of a session do to the bytes that they work in, and to what is written.
use Rattle.std.specs.Prelude.{◌≡◌, ℕ, ◌+◌, ◌<◌, ◌≤◌, Bool, false, List, [], ◌∷◌, ◌++◌, length, take, Option, All}
use Rattle.archive_shape_layout.specs.Writing.{Cut}
use Rattle.cabinet_text_grammar.specs.Tree.{Tree}
use Rattle.cabinet_text_grammar.specs.Line.{Line}
use Rattle.cabinet_text.specs.Input.{lines_of, longest_line, longest_input, IsMet}
use Rattle.cabinet_text.specs.Session.{lines_in_place, AllSay, answer_to, answers, after_all, edits}
use Rattle.cabinet_text.specs.declared.session.RunCause.{RunCause}
use Rattle.cabinet_text.specs.declared.session.RunCause.TheVariants.{Write}
use Rattle.cabinet_documents.specs.Accepted.{Accepted}
use Rattle.cabinet.specs.Editing.{Edited}

-- The first `lines` lines of the input were carried out, and no others: their edits are done, and their answers
-- written.
pub record Carried (input x y old new : List ℕ) (lines edited : ℕ) : Type 0 where
  pub said : List (Option Line)
  pub say : AllSay lines_in_place (take lines (lines_of input)) said
  pub count : length said ≡ lines
  pub short : All (λ line. length line ≤ longest_line) (take lines (lines_of input))
  pub edits_done : Edited x y said
  pub answered : (t : Tree) → Accepted x t → new ≡ old ++ answers lines_in_place t said
  pub edits_counted : (t : Tree) → Accepted x t → edited ≡ edits lines_in_place t said

-- The same, except that only a prefix of the answer to the last line was written, which is not all of it if the writer
-- counts no failures.
pub record CarriedCut (counts : Bool) (input x y old new : List ℕ) (lines edited : ℕ) : Type 0 where
  pub before : List (Option Line)
  pub last : Option Line
  pub say : AllSay lines_in_place (take lines (lines_of input)) (before ++ last ∷ [])
  pub count : length (before ++ last ∷ []) ≡ lines
  pub short : All (λ line. length line ≤ longest_line) (take lines (lines_of input))
  pub edits_done : Edited x y (before ++ last ∷ [])
  pub answered :
      (t : Tree) → Accepted x t
      → Cut (old ++ answers lines_in_place t before) new (answer_to lines_in_place (after_all lines_in_place t before) last)
  pub lost :
      counts ≡ false → (t : Tree) → Accepted x t
      → length new
      < length (old ++ answers lines_in_place t before) + length (answer_to lines_in_place (after_all lines_in_place t before) last)
  pub edits_counted : (t : Tree) → Accepted x t → edited ≡ edits lines_in_place t (before ++ last ∷ [])

abbrev pub CarriedUpTo : Bool → RunCause → (input x y old new : List ℕ) (lines edited : ℕ) → Type 0
CarriedUpTo counts Write input x y old new lines edited = CarriedCut counts input x y old new lines edited
CarriedUpTo counts _ input x y old new lines edited = Carried input x y old new lines edited

-- The state after a fault, by its cause.
abbrev pub Faulted : Bool → (input left x y old new : List ℕ) (lines edited : ℕ) → RunCause → Type 0
Faulted counts input left x y old new lines edited cause =
    CarriedUpTo counts cause input x y old new lines edited × IsMet cause input left lines

-- The whole input was carried out.
pub record Completed (input x y old new : List ℕ) (lines edited : ℕ) : Type 0 where
  pub carried : Carried input x y old new lines edited
  pub all : lines ≡ length (lines_of input)
  pub short : length input ≤ longest_input
