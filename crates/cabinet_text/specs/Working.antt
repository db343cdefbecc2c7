-- What a session on a document writes and leaves, up to the end of its input or to its first fault.
use Rattle.std.specs.Prelude.{◌≡◌, ℕ, ◌+◌, ◌<◌, ◌≤◌, Bool, false, List, [], ◌∷◌, ◌++◌, length, take, Option, Result, Ok, Err, All}
use Rattle.archive_shape_layout.specs.Writing.{Cut}
use Rattle.cabinet_text_grammar.specs.Tree.{Tree}
use Rattle.cabinet_text.specs.Input.{lines_of, longest_line, longest_input, IsMet}
use Rattle.cabinet_text.specs.Session.{Language, AllSay, answer_to, answers, after_all, edits}
use Rattle.cabinet_text.specs.declared.session.Count.{Count}
use Rattle.cabinet_text.specs.declared.session.RunFault.{RunFault}
use Rattle.cabinet_text.specs.declared.session.RunCause.{RunCause}
use Rattle.cabinet_text.specs.declared.session.RunCause.TheVariants.{Write}

-- the lines of a language, and what is said of the document that the session leaves
module _ (L : Language) (Leaves : Tree → Type 0) where
  -- The first lines of the input got the answers that the document gives, and the document after these lines is left.
  pub record AnswersAsDocument (t : Tree) (input old new : List ℕ) (lines edited : ℕ) : Type 0 where
    pub said : List (Option L.Line)
    pub say : AllSay L (take lines (lines_of input)) said
    pub count : length said ≡ lines
    pub short : All (λ line. length line ≤ longest_line) (take lines (lines_of input))
    pub written : new ≡ old ++ answers L t said
    pub leaves : Leaves (after_all L t said)
    pub edits_counted : edited ≡ edits L t said

  -- The same, except that only a prefix of the last answer was written, which is not all of it if the writer counts no
  -- failures.
  pub record AnswersCut (counts : Bool) (t : Tree) (input old new : List ℕ) (lines edited : ℕ) : Type 0 where
    pub before : List (Option L.Line)
    pub last : Option L.Line
    pub say : AllSay L (take lines (lines_of input)) (before ++ last ∷ [])
    pub count : length (before ++ last ∷ []) ≡ lines
    pub short : All (λ line. length line ≤ longest_line) (take lines (lines_of input))
    pub written : Cut (old ++ answers L t before) new (answer_to L (after_all L t before) last)
    pub lost :
        counts ≡ false
        → length new < length (old ++ answers L t before) + length (answer_to L (after_all L t before) last)
    pub leaves : Leaves (after_all L t (before ++ last ∷ []))
    pub edits_counted : edited ≡ edits L t (before ++ last ∷ [])

  abbrev pub AnswersUpTo : Bool → RunCause → Tree → (input old new : List ℕ) → (lines edited : ℕ) → Type 0
  AnswersUpTo counts Write t input old new lines edited = AnswersCut counts t input old new lines edited
  AnswersUpTo counts _ t input old new lines edited = AnswersAsDocument t input old new lines edited

  -- the answers and what is left up to the end of the input, or up to the first fault and with its condition
  abbrev pub WorksAsDocument : (counts : Bool) → Tree → (input left old new : List ℕ) → Result Count RunFault → Type 0
  WorksAsDocument counts t input left old new (Ok n) =
      AnswersAsDocument t input old new n.lines n.edits × (n.lines ≡ length (lines_of input)) × (length input ≤ longest_input)
  WorksAsDocument counts t input left old new (Err f) =
      AnswersUpTo counts f.cause t input old new f.lines f.edits × IsMet f.cause input left f.lines

  -- `lines` lines were carried out, of which `edited` edits were done, and the document after them is left
  pub record LeftByLines (t : Tree) (lines edited : ℕ) : Type 0 where
    pub texts : List (List ℕ)
    pub said : List (Option L.Line)
    pub say : AllSay L texts said
    pub count : length said ≡ lines
    pub leaves : Leaves (after_all L t said)
    pub edits_counted : edited ≡ edits L t said

  -- as many as a session's result tells
  abbrev pub LeftByRun : Tree → Result Count RunFault → Type 0
  LeftByRun t (Ok n) = LeftByLines t n.lines n.edits
  LeftByRun t (Err f) = LeftByLines t f.lines f.edits
