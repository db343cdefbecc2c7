-- What each call leaves of the bytes that it was given, and which status it tells.
use Rattle.std.specs.Prelude.{◌≡◌, ℕ, List, [], ◌∷◌, Option, Some, None, ⊤}
use Rattle.cabinet_text_grammar.specs.Tree.{Tree}
use Rattle.cabinet_text_grammar.specs.Line.{Line, set, Says}
use Rattle.cabinet_text_grammar.specs.Answering.{answer, spelled_answer}
use Rattle.cabinet_text_grammar.specs.Spelling.{text_of}
use Rattle.cabinet_text_grammar.specs.Fault.{FirstFault}
use Rattle.cabinet_text_grammar.specs.declared.cause.Cause.{Cause}
use Rattle.cabinet_text_reading.specs.Reading.{TakesMemory}
use Rattle.cabinet_archives.specs.Saving.{IsPast}
use Rattle.cabinet_documents.specs.Accepted.{Accepted}
use Rattle.cabinet_documents.specs.Audit.{Refusal, IsRefusedFor}
use Rattle.cabinet_documents.specs.Image.{Image}
use Rattle.cabinet.specs.Editing.{Edited}
use Rattle.cabinet.specs.Buffers.{Gives, GivesNothing}
use Rattle.cabinet.specs.Codes.{status_of_refusal, status_of_cause, status_of_answer}
use Rattle.cabinet.specs.declared.calls.status.Status.{Status}
use Rattle.cabinet.specs.declared.calls.status.Status.TheVariants.{Ok, OutOfMemory, Limit, Bad}

-- ---- check: the bytes are the archive of a document, or they are refused for this

pub data Checks (archive : List ℕ) (told : Status) : Type 0 where
  accepted : (t : Tree) → Accepted archive t → told ≡ Ok → Checks archive told
  refused : (r : Refusal) → IsRefusedFor archive r → told ≡ status_of_refusal r → Checks archive told

-- ---- ask: the answer to a question about the document t is given

-- bytes that are no line, or an edit, are bad
abbrev pub Answers : Tree → Option Line → (old new : List ℕ) → (count : ℕ) → (told : Status) → Type 0
Answers t None old new count told = GivesNothing old new count × (told ≡ Bad)
Answers t (Some (set path l)) old new count told = GivesNothing old new count × (told ≡ Bad)
Answers t (Some line) old new count told = Gives (spelled_answer (answer t line)) (status_of_answer (answer t line)) old new count told

-- memory is taken for the answer to a question, and to read an edit that takes some
abbrev pub AskTakesMemory : Line → Type 0
AskTakesMemory (set path l) = TakesMemory (set path l)
AskTakesMemory _ = ⊤

-- memory is refused only for a line that takes some
pub data Asks (archive line old new : List ℕ) (count : ℕ) (told : Status) : Type 0 where
  answers :
      (said : Option Line)
      → Says line said
      → ((t : Tree) → Accepted archive t → Answers t said old new count told)
      → Asks archive line old new count told
  out_of_memory :
      (said : Line)
      → Says line (Some said)
      → AskTakesMemory said
      → GivesNothing old new count
      → told ≡ OutOfMemory
      → Asks archive line old new count told

-- ---- set: an edit changes the bytes x to y

-- the leaf's own bytes are written and no others, and the status is that of the document's answer; bytes that are no line,
-- or a question, are bad
abbrev pub CarriesOut : Option Line → (x y : List ℕ) → (told : Status) → Type 0
CarriesOut (Some (set path l)) x y told =
    Edited x y (Some (set path l) ∷ []) × ((t : Tree) → Accepted x t → told ≡ status_of_answer (answer t (set path l)))
CarriesOut _ x y told = (y ≡ x) × (told ≡ Bad)

-- memory is refused only for a line that takes some
pub data Sets (line x y : List ℕ) (told : Status) : Type 0 where
  carries_out : (said : Option Line) → Says line said → CarriesOut said x y told → Sets line x y told
  out_of_memory : (said : Line) → Says line (Some said) → TakesMemory said → y ≡ x → told ≡ OutOfMemory → Sets line x y told

-- ---- build: the archive of the document t that has the text is given; `line` is that of a fault of the text, or 0

abbrev pub IsPastLimits : Tree → Type 0
IsPastLimits t = (e : _) × IsPast t e

pub data Builds (text old new : List ℕ) (count line : ℕ) (told : Status) : Type 0 where
  builds :
      (t : Tree)
      → text ≡ text_of t
      → (image : List ℕ)
      → Image t image
      → Gives image Ok old new count told
      → line ≡ 0
      → Builds text old new count line told
  no_text :
      (cause : Cause)
      → FirstFault text line cause
      → GivesNothing old new count
      → told ≡ status_of_cause cause
      → Builds text old new count line told
  past_limits :
      (t : Tree)
      → text ≡ text_of t
      → IsPastLimits t
      → GivesNothing old new count
      → line ≡ 0
      → told ≡ Limit
      → Builds text old new count line told
  out_of_memory :
      (t : Tree)
      → text ≡ text_of t
      → GivesNothing old new count
      → line ≡ 0
      → told ≡ OutOfMemory
      → Builds text old new count line told

-- ---- load: the text of the document t that the bytes are the archive of is given, or they are refused for this

pub data Loads (archive old new : List ℕ) (count : ℕ) (told : Status) : Type 0 where
  loads : (t : Tree) → Accepted archive t → Gives (text_of t) Ok old new count told → Loads archive old new count told
  refused :
      (r : Refusal)
      → IsRefusedFor archive r
      → GivesNothing old new count
      → told ≡ status_of_refusal r
      → Loads archive old new count told
