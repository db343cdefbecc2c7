-- The lines of a session in which documents grow: those about a document, and those that add, replace and remove nodes.
use Rattle.std.specs.Prelude.{◌≡◌, ◌≢◌, ℕ, List, ◌++◌, codes, Option, Some, None, All, IsUtf8}
use Rattle.cabinet_text_grammar.specs.Tree.{Tree, leaf, shared, nothing, list, map, no_trees, no_pairs, IsLeaf}
use Rattle.cabinet_text_grammar.specs.Spelling.{spelled}
use Rattle.cabinet_text_grammar.specs.Path.{Step}
use Rattle.cabinet_text_grammar.specs.Line.{Line, spelling, spelled_path, IsStep, IsPossible}
use Rattle.cabinet_text_grammar.specs.Answering.{Answer, missing, done, refused, bad, head_of, answer, after}
use Rattle.cabinet_text_grammar.specs.Restructuring.{Edited, put, insert, remove}
use Rattle.cabinet_text_grammar.specs.Restructuring as edit

pub data EditLine : Type 0 where
  about : Line → EditLine
  -- a node, which is put at a path, or inserted at one
  put_line : List Step → Tree → EditLine
  insert_line : List Step → Tree → EditLine
  remove_line : List Step → EditLine

-- the line of a new node's head tells the node: it is a leaf, a shared text, or a container without nodes
abbrev pub IsAlone : Tree → Type 0
IsAlone (leaf l) = IsLeaf l
IsAlone (shared t) = IsUtf8 t
IsAlone nothing = Unit {0}
IsAlone (list no_trees) = Unit {0}
IsAlone (map kind no_pairs) = Unit {0}
IsAlone _ = ⊥

-- without the newline
abbrev pub edit_spelling : EditLine → List ℕ
edit_spelling (about line) = spelling line
edit_spelling (put_line path new) = codes "put " ++ (spelled (head_of new) ++ spelled_path path)
edit_spelling (insert_line path new) = codes "insert " ++ (spelled (head_of new) ++ spelled_path path)
edit_spelling (remove_line path) = codes "remove" ++ spelled_path path

abbrev pub IsPossibleEdit : EditLine → Type 0
IsPossibleEdit (about line) = IsPossible line
IsPossibleEdit (put_line path new) = All IsStep path × IsAlone new
IsPossibleEdit (insert_line path new) = All IsStep path × IsAlone new
IsPossibleEdit (remove_line path) = All IsStep path

-- the line that bytes are the spelling of, or none
abbrev pub SaysEdit : List ℕ → Option EditLine → Type 0
SaysEdit bytes None = (line : EditLine) → IsPossibleEdit line → bytes ≢ edit_spelling line
SaysEdit bytes (Some line) = IsPossibleEdit line × (bytes ≡ edit_spelling line)

-- bytes spell at most one line
abbrev pub OneEditLine : Type 0
OneEditLine = (bytes : List ℕ) (a b : Option EditLine) → SaysEdit bytes a → SaysEdit bytes b → a ≡ b

-- ---- answers, and documents after lines

abbrev pub outcome_of_edit : Edited Tree → Answer
outcome_of_edit (edit.edited u) = done
outcome_of_edit edit.missing = missing
outcome_of_edit edit.refused = refused

-- a document after an edit that may change nothing
abbrev pub edited_or : Tree → Edited Tree → Tree
edited_or t (edit.edited u) = u
edited_or t edit.missing = t
edited_or t edit.refused = t

-- what bytes say is answered, bytes that spell no line too
abbrev pub edit_reply : Tree → Option EditLine → Answer
edit_reply t None = bad
edit_reply t (Some (about line)) = answer t line
edit_reply t (Some (put_line path new)) = outcome_of_edit (put t path new)
edit_reply t (Some (insert_line path new)) = outcome_of_edit (insert t path new)
edit_reply t (Some (remove_line path)) = outcome_of_edit (remove t path)

-- the document after what bytes say
abbrev pub after_edit : Tree → Option EditLine → Tree
after_edit t None = t
after_edit t (Some (about line)) = after t line
after_edit t (Some (put_line path new)) = edited_or t (put t path new)
after_edit t (Some (insert_line path new)) = edited_or t (insert t path new)
after_edit t (Some (remove_line path)) = edited_or t (remove t path)
