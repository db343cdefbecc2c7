-- Laws of sessions, of loaded documents and of statuses, as statements.
use Rattle.std.specs.Prelude.{◌≡◌, ℕ, List, map, take, drop, Option, option_map}
use Rattle.cabinet_text_grammar.specs.Tree.{Tree}
use Rattle.cabinet_text_grammar.specs.Line.{Line}
use Rattle.cabinet_text_grammar.specs.EditLine.{about}
use Rattle.cabinet_documents.specs.Accepted.{Accepted}
use Rattle.cabinet_documents.specs.Image.{Image}
use Rattle.cabinet.specs.Codes.{code_of}
use Rattle.cabinet_text.specs.Session.{lines_in_place, edit_lines, AllSay, after_all}
use Rattle.cabinet.specs.Editing.{LinesLeave, EditedByLines}
use Rattle.cabinet.specs.declared.calls.status.Status.{Status}

-- the first `lines` lines leave the bytes `mid`, and the others continue from there
pub record IsAfter (x y : List ℕ) (t : Tree) (said : List (Option Line)) (lines : ℕ) (mid : List ℕ) : Type 0 where
  pub before : LinesLeave x t (take lines said) mid
  pub later : LinesLeave mid (after_all lines_in_place t (take lines said)) (drop lines said) y

-- after each line the bytes are the archive of the document after it
abbrev pub AcceptedAfterEachLine : Type 0
AcceptedAfterEachLine =
    (t : Tree) (x y : List ℕ) (texts : List (List ℕ)) (said : List (Option Line)) (lines : ℕ)
    → Accepted x t
    → AllSay lines_in_place texts said
    → LinesLeave x t said y
    → (mid : List ℕ) × IsAfter x y t said lines mid × Accepted mid (after_all lines_in_place t (take lines said))

-- after each line the bytes of an image are the image of the document after it
abbrev pub ImageAfterEachLine : Type 0
ImageAfterEachLine =
    (t : Tree) (x y : List ℕ) (texts : List (List ℕ)) (said : List (Option Line)) (lines : ℕ)
    → Image t x
    → AllSay lines_in_place texts said
    → LinesLeave x t said y
    → (mid : List ℕ) × IsAfter x y t said lines mid × Image (after_all lines_in_place t (take lines said)) mid

-- the bytes of an archive in which no edit was done are unchanged
abbrev pub UneditedBytesStay : Type 0
UneditedBytesStay = (x y : List ℕ) (t : Tree) (lines : ℕ) → Accepted x t → EditedByLines x y lines 0 → y ≡ x

-- the document that loading an archive gives
abbrev pub IsLoaded : List ℕ → Tree → Type 0
IsLoaded bytes d = (t : Tree) → Accepted bytes t → d ≡ t

-- the image of a loaded document is an archive of the same document
abbrev pub LoadedIsSaved : Type 0
LoadedIsSaved = (bytes image : List ℕ) (t d : Tree) → Accepted bytes t → IsLoaded bytes d → Image d image → Accepted image t

-- loading that image and saving its document gives the same image once more
abbrev pub SavedAgainIsSame : Type 0
SavedAgainIsSame =
    (image again : List ℕ) (d e : Tree)
    → Image d image
    → IsLoaded image e
    → Image e again
    → again ≡ image

-- lines that work in place leave the image of the same document as a session in which documents grow
abbrev pub EditedAsInPlace : Type 0
EditedAsInPlace =
    (t : Tree) (said : List (Option Line)) (x y : List ℕ)
    → Image (after_all lines_in_place t said) x
    → Image (after_all edit_lines t (map (option_map about) said)) y
    → y ≡ x

-- a code is that of one status
abbrev pub CodesDiffer : Type 0
CodesDiffer = (s t : Status) → code_of s ≡ code_of t → s ≡ t
