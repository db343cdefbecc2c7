-- Laws of documents, texts and lines, as statements.
use Rattle.std.specs.Prelude.{◌≡◌, ◌≢◌, ℕ, List, Option}
use Rattle.cabinet_text_grammar.specs.Tree.{Tree, Leaf, IsLeaf}
use Rattle.cabinet_text_grammar.specs.Wholes.{IsDocument}
use Rattle.cabinet_text_grammar.specs.Spelling.{text_of}
use Rattle.cabinet_text_grammar.specs.Path.{Step}
use Rattle.cabinet_text_grammar.specs.Line.{Line, set, Says}
use Rattle.cabinet_text_grammar.specs.Answering.{answer, done, change}
use Rattle.cabinet_text_grammar.specs.Fault.{FirstFault}
use Rattle.cabinet_text_grammar.specs.declared.cause.Cause.{Cause}
use Rattle.cabinet_text_grammar.specs.declared.cause.Cause.TheVariants.{OutOfMemory}

-- no two documents have the same text
abbrev pub OneDocument : Type 0
OneDocument = (s t : Tree) → IsDocument s → IsDocument t → text_of s ≡ text_of t → s ≡ t

-- a text with a fault is the text of no document
abbrev pub FaultRefuses : Type 0
FaultRefuses =
    (input : List ℕ) (line : ℕ) (cause : Cause) (t : Tree)
    → FirstFault input line cause → cause ≢ OutOfMemory → IsDocument t → input ≢ text_of t

-- a text has at most one first fault
pub record SameFault (line other : ℕ) (cause reason : Cause) : Type 0 where
  pub same_line : line ≡ other
  pub same_cause : cause ≡ reason

abbrev pub OneFault : Type 0
OneFault =
    (input : List ℕ) (line other : ℕ) (cause reason : Cause)
    → FirstFault input line cause → FirstFault input other reason → cause ≢ OutOfMemory → reason ≢ OutOfMemory
    → SameFault line other cause reason

-- bytes spell at most one line
abbrev pub OneLine : Type 0
OneLine = (bytes : List ℕ) (a b : Option Line) → Says bytes a → Says bytes b → a ≡ b

-- only an edit that is done changes the document, and its result is a document
abbrev pub OnlyDoneChanges : Type 0
OnlyDoneChanges = (t : Tree) (path : List Step) (new : Leaf) → answer t (set path new) ≢ done → change t path new ≡ t

abbrev pub ChangeKeepsDocument : Type 0
ChangeKeepsDocument = (t : Tree) (path : List Step) (new : Leaf) → IsDocument t → IsLeaf new → IsDocument (change t path new)
