-- The lines that the program writes about its faults, and its exit statuses.
use Rattle.std.specs.Prelude.{ℕ, List, ◌++◌, codes, string_bytes}
use Rattle.std.specs.Fmt.{decimal}
use Rattle.cabinet_text_grammar.specs.declared.cause.Cause.{Cause}
use Rattle.cabinet_text_grammar.specs.declared.cause.Cause.TheVariants as cause
use Rattle.cabinet_archives.specs.declared.opening.refusal.OpenRefusal.{OpenRefusal}
use Rattle.cabinet_archives.specs.declared.opening.refusal.OpenRefusal.TheVariants as open_refusal
use Rattle.cabinet_archives.specs.declared.saving.saving.SaveRefusal.{SaveRefusal}
use Rattle.cabinet_archives.specs.declared.saving.saving.SaveRefusal.TheVariants as save_refusal
use Rattle.cabinet_text.specs.declared.session.RunCause.{RunCause}
use Rattle.cabinet_text.specs.declared.session.RunCause.TheVariants as run_cause
use Rattle.cabinet.specs.declared.fault.Fault.{Fault}
use Rattle.cabinet.specs.declared.fault.Fault.TheVariants.{Usage, CannotRead, CannotWrite, Text, Save, Open, Run}

-- each refusal is written by its name
abbrev pub cause_name : Cause → List ℕ
cause_name cause.NotUtf8 = codes "NotUtf8"
cause_name cause.NoNewline = codes "NoNewline"
cause_name cause.EndTooEarly = codes "EndTooEarly"
cause_name cause.KeyExpected = codes "KeyExpected"
cause_name cause.BadEscape = codes "BadEscape"
cause_name cause.KeyOrder = codes "KeyOrder"
cause_name cause.KeyRepeated = codes "KeyRepeated"
cause_name cause.UnknownHead = codes "UnknownHead"
cause_name cause.BadNumber = codes "BadNumber"
cause_name cause.UnknownWhole = codes "UnknownWhole"
cause_name cause.TooDeep = codes "TooDeep"
cause_name cause.RepeatedWhole = codes "RepeatedWhole"
cause_name cause.WholeOrder = codes "WholeOrder"
cause_name cause.LineAfterEnd = codes "LineAfterEnd"
cause_name cause.OutOfMemory = codes "OutOfMemory"

abbrev pub save_refusal_name : SaveRefusal → List ℕ
save_refusal_name (save_refusal.Limit e) = codes "Limit"
save_refusal_name (save_refusal.Writer e) = codes "Writer"
save_refusal_name save_refusal.OutOfMemory = codes "OutOfMemory"

abbrev pub open_refusal_name : OpenRefusal → List ℕ
open_refusal_name (open_refusal.Access e) = codes "Access"
open_refusal_name open_refusal.TooDeep = codes "TooDeep"
open_refusal_name open_refusal.KeysNotAscending = codes "KeysNotAscending"
open_refusal_name open_refusal.WrongTag = codes "WrongTag"
open_refusal_name open_refusal.NotFound = codes "NotFound"
open_refusal_name open_refusal.OutOfMemory = codes "OutOfMemory"

abbrev pub run_cause_name : RunCause → List ℕ
run_cause_name run_cause.Read = codes "Read"
run_cause_name run_cause.Write = codes "Write"
run_cause_name run_cause.OutOfMemory = codes "OutOfMemory"
run_cause_name run_cause.LineTooLong = codes "LineTooLong"
run_cause_name run_cause.InputTooLong = codes "InputTooLong"

abbrev pub spelled_fault : Fault → List ℕ
spelled_fault Usage = codes "cab: usage: cab build TEXT ARCHIVE | cab run ARCHIVE\n"
spelled_fault (CannotRead path) = codes "cab: cannot read " ++ (string_bytes path ++ codes "\n")
spelled_fault (CannotWrite path) = codes "cab: cannot write " ++ (string_bytes path ++ codes "\n")
spelled_fault (Text r) = codes "cab: text line " ++ (decimal r.line ++ (codes ": " ++ (cause_name r.cause ++ codes "\n")))
spelled_fault (Save r) = codes "cab: save: " ++ (save_refusal_name r ++ codes "\n")
spelled_fault (Open r) = codes "cab: open: " ++ (open_refusal_name r ++ codes "\n")
spelled_fault (Run f) = codes "cab: run: " ++ (run_cause_name f.cause ++ (codes " after " ++ (decimal f.lines ++ codes " lines\n")))

-- 2 if the words are no command, 1 if something was refused or failed
abbrev pub status_of : Fault → ℕ
status_of Usage = 2
status_of (CannotRead path) = 1
status_of (CannotWrite path) = 1
status_of (Text r) = 1
status_of (Save r) = 1
status_of (Open r) = 1
status_of (Run f) = 1
