-- How showing an archive ends, and the lines that report why.
use Rattle.std.specs.Prelude.{◌≡◌, ℕ, ◌+◌, ◌<◌, Bool, true, false, List, length, Option, Result, Ok, Err, MatchResult, String, string_bytes, string_len, codes}
use Rattle.std.specs.declared.alloc.Global.{Global}
use Rattle.archive_shape_layout.specs.Writing.{WriterMembers, Writes}
use Rattle.archive_shape_layout.specs.declared.error.Error.{Error}
use Rattle.cabinet_archives.specs.MapLaws.{RootMaps}
use Rattle.cabinet_archives.specs.MapLines.{spelled_map}
use Rattle.cabinet_archives.specs.Mapping.{Listed}
use Rattle.cabinet_archives.specs.Refused.{refusal_of}
use Rattle.cabinet_archives.specs.declared.opening.refusal.OpenRefusal.{OpenRefusal}
use Rattle.cabinet_documents.specs.Accepted.{Accepted}
use Rattle.cabinet_documents.specs.Audit.{IsRefusedFor}
use Rattle.cabinet_text_grammar.specs.Tree.{Tree}
use Rattle.cabinet.specs.Calls.{WritesDocument}
use Rattle.cabinet.specs.Reporting.{spelled_fault}
use Rattle.cab_files.specs.Ending.{IsArchive}
use Rattle.cab_files.specs.declared.showing.archive.View.{View}
use Rattle.cab_files.specs.declared.showing.archive.View.TheVariants as view
use Rattle.cabinet.specs.declared.fault.Fault.{Fault}
use Rattle.cabinet.specs.declared.fault.Fault.TheVariants.{Usage, CannotRead, CannotWrite, Open}

-- the output in a fault, which has no name
abbrev pub IsOutput : (path other : String Global) → Type 0
IsOutput path other = 0 < string_len path → string_bytes other ≡ codes "-"

-- how showing an archive file ends: bytes are an archive, or a fault names the file, its bytes or the output; which bytes, no
-- contract can name
abbrev pub EndsShow : String Global → Result (Unit {0}) Fault → Type 0
EndsShow path (Ok done) = (bytes : List ℕ) × IsArchive bytes
EndsShow path (Err (CannotRead other)) = other ≡ path
EndsShow path (Err (Open refusal)) = (bytes : List ℕ) × IsRefusedFor bytes (refusal_of refusal)
EndsShow path (Err (CannotWrite other)) = IsOutput path other
EndsShow path (Err fault) = ⊥

-- how printing a view of bytes ends, by the numbers of writes that had failed before and after: the bytes are an archive
-- and no write failed, or the bytes are refused and none failed, or one failed
abbrev pub EndsPrinting : (bytes : List ℕ) → String Global → (early late : ℕ) → Result (Unit {0}) Fault → Type 0
EndsPrinting bytes path early late (Ok done) = IsArchive bytes × (late ≡ early)
EndsPrinting bytes path early late (Err (Open refusal)) = IsRefusedFor bytes (refusal_of refusal) × (late ≡ early)
EndsPrinting bytes path early late (Err (CannotWrite other)) = IsOutput path other × (late ≡ early + 1)
EndsPrinting bytes path early late (Err fault) = ⊥

-- the map of the regions of an archive is written, and nothing where the bytes are refused
abbrev pub WritesMap : {W A : Type 0} → WriterMembers W → (bytes : List ℕ) (lines characters : Option ℕ) (early late : W)
    → Result (Result A Error) OpenRefusal → Type 0
WritesMap w bytes lines characters early late result =
    MatchResult result
    (λ written. ((t : Tree) × Accepted bytes t) × ((listed : List Listed) × RootMaps bytes listed
    × Writes w early late (spelled_map (length bytes) lines characters listed) written))
    (λ refusal. IsRefusedFor bytes (refusal_of refusal) × (late ≡ early))

-- the text of an archive's document is written, or its map
abbrev pub WritesView : {W A : Type 0} → WriterMembers W → (bytes : List ℕ) → View → (early late : W) → Result (Result A Error) OpenRefusal
    → Type 0
WritesView w bytes view.Text early late result = WritesDocument w bytes early late result
WritesView w bytes (view.Map lines characters) early late result = WritesMap w bytes lines characters early late result

-- the number of writes that failed, by whether all was written: writing ends at the first
abbrev pub failed_writes : (whole : Bool) → ℕ
failed_writes true = 0
failed_writes false = 1

-- the usage of a program, which is given, and for every other fault the line of `cab`
abbrev pub reported_with : (usage : List ℕ) → Fault → List ℕ
reported_with usage Usage = usage
reported_with usage fault = spelled_fault fault

abbrev pub spelled_report : Fault → List ℕ
spelled_report fault = reported_with (codes "cab_show: usage: cab_show ARCHIVE | cab_show --map [--lines N] [--path N] ARCHIVE\n") fault
