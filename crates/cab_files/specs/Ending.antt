-- The fault that is reported of a run in which more than one operation may fail.
use Rattle.std.specs.Prelude.{◌≡◌, ℕ, ◌<◌, Bool, true, false, List, String, Result, Ok, Err, IsOk}
use Rattle.std.specs.declared.alloc.Global.{Global}
use Rattle.cabinet_text_grammar.specs.Tree.{Tree}
use Rattle.cabinet_documents.specs.Accepted.{Accepted}
use Rattle.cabinet_documents.specs.Audit.{IsRefusedFor}
use Rattle.cabinet_archives.specs.Refused.{refusal_of}
use Rattle.cabinet.specs.Editing.{EditedByLines}
use Rattle.cabinet.specs.declared.fault.Fault.{Fault}
use Rattle.cabinet.specs.declared.fault.Fault.TheVariants.{Usage, CannotRead, CannotWrite, Text, Save, Open, Run}
use Rattle.cabinet_text.specs.declared.session.Count.{Count}
use Rattle.cabinet_text.specs.declared.session.RunFault.{RunFault}
use Rattle.cabinet_text.specs.declared.session.RunCause.TheVariants.{Write}

-- A completed run fails if its last answers were not written. Of two faults the first is kept.
abbrev pub IsFlushed : Result Count RunFault → (written : Bool) → Result Count RunFault → Type 0
IsFlushed (Ok count) true ending = ending ≡ Ok count
IsFlushed (Ok count) false ending = ending ≡ Err (record { cause = Write; lines = count.lines; edits = count.edits })
IsFlushed (Err fault) _ ending = ending ≡ Err fault

-- A completed run fails if its archive was not written back. Of two faults the first is reported.
abbrev pub IsFirstFault : Result Count RunFault → (written : Bool) → String Global → Result (Unit {0}) Fault → Type 0
IsFirstFault (Ok count) true path ending = IsOk ending
IsFirstFault (Ok count) false path ending = ending ≡ Err (CannotWrite path)
IsFirstFault (Err fault) _ path ending = ending ≡ Err (Run fault)

-- lines changed the bytes from old to new, and `edits` of them were edits that were done
pub record EditedTo (old new : List ℕ) : Type 0 where
  pub lines : ℕ
  pub edits : ℕ
  pub edited : EditedByLines old new lines edits

-- the bytes are the archive of some document
abbrev pub IsArchive : List ℕ → Type 0
IsArchive bytes = ∥ ((t : Tree) × Accepted bytes t) ∥₁

-- The result of working in the bytes of a file: they are an archive, and lines were carried out, up to a fault of the
-- run; or an edit was done too, which could not be written back; or they are no archive, and are unchanged.
abbrev pub EditsArchive : (old new : List ℕ) → String Global → Result (Unit {0}) Fault → Type 0
EditsArchive old new path (Ok done) = IsArchive old × EditedTo old new
EditsArchive old new path (Err (Run fault)) = IsArchive old × EditedByLines old new fault.lines fault.edits
EditsArchive old new path (Err (CannotWrite other)) = (other ≡ path) × IsArchive old × ((e : EditedTo old new) × (0 < e.edits))
EditsArchive old new path (Err (Open refusal)) = IsRefusedFor old (refusal_of refusal) × (new ≡ old)
EditsArchive old new path (Err Usage) = ⊥
EditsArchive old new path (Err (CannotRead other)) = ⊥
EditsArchive old new path (Err (Text refusal)) = ⊥
EditsArchive old new path (Err (Save refusal)) = ⊥

-- how running an archive file ends: of bytes that no contract can name, as working in them ends, or the file was not read
abbrev pub EndsRun : String Global → Result (Unit {0}) Fault → Type 0
EndsRun path (Err (CannotRead other)) = other ≡ path
EndsRun path result = (old : List ℕ) × (new : List ℕ) × EditsArchive old new path result
