-- How a session on the document of an archive file ends, and on that of a new one, and the lines that report why.
use Rattle.std.specs.Prelude.{◌≡◌, ℕ, ◌⊎◌, ◌||◌, nat_lt, Bool, true, false, List, Result, Ok, Err, IsOk, IsTrue, Vec, String, codes, ⊤}
use Rattle.std.specs.declared.alloc.Global.{Global}
use Rattle.cabinet_text_grammar.specs.Keys.{ordered, hashed, kept}
use Rattle.cabinet_text_grammar.specs.Tree.{Tree, nothing, list, map, no_trees, no_pairs}
use Rattle.cabinet_text.specs.Session.{edit_lines}
use Rattle.cabinet_text.specs.Working.{LeftByLines}
use Rattle.cabinet_text.specs.declared.session.Count.{Count}
use Rattle.cabinet_text.specs.declared.session.RunFault.{RunFault}
use Rattle.cabinet_documents.specs.Accepted.{Accepted}
use Rattle.cabinet_documents.specs.Audit.{IsRefusedFor, out_of_memory}
use Rattle.cabinet_documents.specs.Image.{Image}
use Rattle.cabinet_archives.specs.Refused.{refusal_of}
use Rattle.cabinet_archives.specs.Saving.{HasNoImageFor, IsWithinLimits}
use Rattle.cabinet_archives.specs.declared.saving.saving.SaveRefusal.{SaveRefusal}
use Rattle.cabinet.specs.declared.fault.Fault.{Fault}
use Rattle.cabinet.specs.declared.fault.Fault.TheVariants.{Usage, CannotRead, CannotWrite, Text, Save, Open, Run}
use Rattle.cab_files.specs.Showing.{reported_with}
use Rattle.cab_files.specs.declared.editing.command.NewRoot.{NewRoot}
use Rattle.cab_files.specs.declared.editing.command.NewRoot.TheVariants as root

-- the document of a new archive
abbrev pub root_tree : NewRoot → Tree
root_tree root.List = list no_trees
root_tree root.Ordered = map ordered no_pairs
root_tree root.Hashed = map hashed no_pairs
root_tree root.Kept = map kept no_pairs
root_tree root.Nothing = nothing

-- the number of edits that a session did
abbrev pub edits_told : Result Count RunFault → ℕ
edits_told (Ok n) = n.edits
edits_told (Err f) = f.edits

-- whether the archive after a session is to be written: a new one, or one that was edited
abbrev pub due : (new : Bool) → (edits : ℕ) → Bool
due new edits = new || nat_lt 0 edits

-- A completed session fails if its archive is to be written, and was not saved, or not written. Of the faults the first is
-- reported.
abbrev pub IsFirstEditFault : Result Count RunFault → Result (Vec ℕ Global) SaveRefusal → (due written : Bool) → String Global
    → Result (Unit {0}) Fault → Type 0
IsFirstEditFault (Err fault) archive due written path ending = ending ≡ Err (Run fault)
IsFirstEditFault (Ok n) archive false written path ending = IsOk ending
IsFirstEditFault (Ok n) (Err refusal) true written path ending = ending ≡ Err (Save refusal)
IsFirstEditFault (Ok n) (Ok bytes) true true path ending = IsOk ending
IsFirstEditFault (Ok n) (Ok bytes) true false path ending = ending ≡ Err (CannotWrite path)

-- a document was saved as its archive
abbrev pub IsSaved : Tree → Type 0
IsSaved t = ((image : List ℕ) × Image t image) × IsWithinLimits t

-- lines were carried out in a document, and of the document after them and the number of edits something holds
abbrev pub Carries : Tree → (Leaves : ℕ → Tree → Type 0) → Type 0
Carries t Leaves = (lines : ℕ) × (edits : ℕ) × LeftByLines edit_lines (Leaves edits) t lines edits

-- How a session on a document ends whose archive is kept in a file: lines were carried out, up to a fault of the session, and
-- the archive was saved if it was to be written; or it was to be written, but the document has no archive, or the file was
-- not written.
abbrev pub EndsSession : (new : Bool) → Tree → String Global → Result (Unit {0}) Fault → Type 0
EndsSession new t path (Ok done) = Carries t (λ edits u. IsTrue (due new edits) → IsSaved u)
EndsSession new t path (Err (Run fault)) = LeftByLines edit_lines (λ u. ⊤) t fault.lines fault.edits
EndsSession new t path (Err (Save refusal)) = Carries t (λ edits u. IsTrue (due new edits) × HasNoImageFor u refusal)
EndsSession new t path (Err (CannotWrite other)) = (other ≡ path) × Carries t (λ edits u. IsTrue (due new edits) × IsSaved u)
EndsSession new t path (Err Usage) = ⊥
EndsSession new t path (Err (CannotRead other)) = ⊥
EndsSession new t path (Err (Text refusal)) = ⊥
EndsSession new t path (Err (Open refusal)) = ⊥

-- the same of the bytes that the document's archive is read from, which may be refused
abbrev pub EditsFile : (bytes : List ℕ) → (new : Bool) → String Global → Result (Unit {0}) Fault → Type 0
EditsFile bytes new path (Err (Open refusal)) = IsRefusedFor bytes (refusal_of refusal)
EditsFile bytes new path result = (t : Tree) × Accepted bytes t × EndsSession new t path result

-- how editing an archive file ends: of bytes that no contract can name, or the file was not read
abbrev pub EndsEdit : String Global → Result (Unit {0}) Fault → Type 0
EndsEdit path (Err (CannotRead other)) = other ≡ path
EndsEdit path result = (bytes : List ℕ) × EditsFile bytes false path result

-- How making an archive file ends: something is at its path, or the document without lines was not saved, or not opened for lack
-- of memory; or as the session on it does.
abbrev pub EndsNew : String Global → NewRoot → Result (Unit {0}) Fault → Type 0
EndsNew path root (Err (CannotWrite other)) = other ≡ path
EndsNew path root (Err (Save refusal)) = HasNoImageFor (root_tree root) refusal ⊎ EndsSession true (root_tree root) path (Err (Save refusal))
EndsNew path root (Err (Open refusal)) = refusal_of refusal ≡ out_of_memory
EndsNew path root result = EndsSession true (root_tree root) path result

-- the usage of this program, and for every other fault the line of `cab`
abbrev pub spelled_edit_report : Fault → List ℕ
spelled_edit_report fault = reported_with (codes "cab_edit: usage: cab_edit ARCHIVE | cab_edit --new KIND ARCHIVE\n") fault
