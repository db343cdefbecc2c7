-- A session on a document: what the lines of an input say, their answers, and the document after them.
use Rattle.std.specs.Prelude.{ℕ, ◌+◌, List, [], ◌∷◌, ◌++◌, Option, Some, None}
use Rattle.cabinet_text_grammar.specs.Tree.{Tree}
use Rattle.cabinet_text_grammar.specs.Line.{Line, Says}
use Rattle.cabinet_text_grammar.specs.Answering as answering
use Rattle.cabinet_text_grammar.specs.Answering.{Answer, done, spelled_answer}
use Rattle.cabinet_text_grammar.specs.EditLine.{EditLine, SaysEdit, edit_reply, after_edit}

-- the lines that a session understands
pub record Language : Type 1 where
  pub Line : Type 0
  -- the line that bytes are the spelling of, or none
  pub Says : List ℕ → Option Line → Type 0
  -- the answer of a document to what bytes say, and the document after it
  pub reply : Tree → Option Line → Answer
  pub after : Tree → Option Line → Tree

-- the document after what bytes say, which may be no line
abbrev pub next : Tree → Option Line → Tree
next t None = t
next t (Some line) = answering.after t line

-- those that work in place
abbrev pub lines_in_place : Language
lines_in_place = record { Line = Line; Says = Says; reply = answering.reply; after = next }

-- those in which documents grow
abbrev pub edit_lines : Language
edit_lines = record { Line = EditLine; Says = SaysEdit; reply = edit_reply; after = after_edit }

-- only an edit that is done has the answer `done`
abbrev pub one_if_done : Answer → ℕ
one_if_done done = 1
one_if_done _ = 0

module _ (L : Language) where
  -- what each of a list of lines says
  abbrev pub AllSay : List (List ℕ) → List (Option L.Line) → Type 0
  AllSay [] [] = Unit {0}
  AllSay (bytes ∷ rest) (line ∷ lines) = L.Says bytes line × AllSay rest lines
  AllSay [] (line ∷ lines) = ⊥
  AllSay (bytes ∷ rest) [] = ⊥

  -- the bytes of the answer to what a line says
  abbrev pub answer_to : Tree → Option L.Line → List ℕ
  answer_to t line = spelled_answer (L.reply t line)

  abbrev pub answers : Tree → List (Option L.Line) → List ℕ
  answers t [] = []
  answers t (line ∷ lines) = answer_to t line ++ answers (L.after t line) lines

  abbrev pub after_all : Tree → List (Option L.Line) → Tree
  after_all t [] = t
  after_all t (line ∷ lines) = after_all (L.after t line) lines

  -- the number of edits that are done
  abbrev pub edits : Tree → List (Option L.Line) → ℕ
  edits t [] = 0
  edits t (line ∷ lines) = one_if_done (L.reply t line) + edits (L.after t line) lines
