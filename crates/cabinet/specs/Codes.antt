-- The codes of statuses, and which refusal or answer each status tells.
use Rattle.std.specs.Prelude.{◌≡◌, ℕ}
use Rattle.cabinet_text_grammar.specs.Answering.{Answer, head, keys_are, wrong, missing, done, refused, bad}
use Rattle.cabinet_text_grammar.specs.declared.cause.Cause.{Cause}
use Rattle.cabinet_text_grammar.specs.declared.cause.Cause.TheVariants as cause
use Rattle.cabinet_documents.specs.Audit.{Refusal, access, unsound, out_of_memory, too_deep, keys_not_ascending, wrong_tag, not_found}
use Rattle.cabinet.specs.declared.calls.status.Status.{Status}
use Rattle.cabinet.specs.declared.calls.status.Status.TheVariants as status

-- the code that C sees
abbrev pub code_of : Status → ℕ
code_of status.Ok = 0
code_of status.Null = 1
code_of status.Short = 2
code_of status.OutOfMemory = 3
code_of status.Access = 4
code_of status.TooDeep = 5
code_of status.KeysNotAscending = 6
code_of status.WrongTag = 7
code_of status.NotFound = 8
code_of status.Limit = 9
code_of status.Bad = 10
code_of status.Missing = 11
code_of status.Wrong = 12
code_of status.Refused = 13
code_of status.TextNotUtf8 = 14
code_of status.TextNoNewline = 15
code_of status.TextEndTooEarly = 16
code_of status.TextKeyExpected = 17
code_of status.TextBadEscape = 18
code_of status.TextKeyOrder = 19
code_of status.TextKeyRepeated = 20
code_of status.TextUnknownHead = 21
code_of status.TextBadNumber = 22
code_of status.TextUnknownWhole = 23
code_of status.TextTooDeep = 24
code_of status.TextRepeatedWhole = 25
code_of status.TextWholeOrder = 26
code_of status.TextLineAfterEnd = 27

-- the code of a status of which this is said
abbrev pub IsCodeOf : ℕ → (Status → Type 0) → Type 0
IsCodeOf code Says = (told : Status) × (code ≡ code_of told) × Says told

-- of a refusal to open bytes
abbrev pub status_of_refusal : Refusal → Status
status_of_refusal (access e) = status.Access
status_of_refusal (unsound too_deep) = status.TooDeep
status_of_refusal (unsound keys_not_ascending) = status.KeysNotAscending
status_of_refusal (unsound wrong_tag) = status.WrongTag
status_of_refusal (unsound not_found) = status.NotFound
status_of_refusal out_of_memory = status.OutOfMemory

-- of the cause of a text's fault
abbrev pub status_of_cause : Cause → Status
status_of_cause cause.NotUtf8 = status.TextNotUtf8
status_of_cause cause.NoNewline = status.TextNoNewline
status_of_cause cause.EndTooEarly = status.TextEndTooEarly
status_of_cause cause.KeyExpected = status.TextKeyExpected
status_of_cause cause.BadEscape = status.TextBadEscape
status_of_cause cause.KeyOrder = status.TextKeyOrder
status_of_cause cause.KeyRepeated = status.TextKeyRepeated
status_of_cause cause.UnknownHead = status.TextUnknownHead
status_of_cause cause.BadNumber = status.TextBadNumber
status_of_cause cause.UnknownWhole = status.TextUnknownWhole
status_of_cause cause.TooDeep = status.TextTooDeep
status_of_cause cause.RepeatedWhole = status.TextRepeatedWhole
status_of_cause cause.WholeOrder = status.TextWholeOrder
status_of_cause cause.LineAfterEnd = status.TextLineAfterEnd
status_of_cause cause.OutOfMemory = status.OutOfMemory

-- of the answer to a line
abbrev pub status_of_answer : Answer → Status
status_of_answer (head i) = status.Ok
status_of_answer (keys_are ks) = status.Ok
status_of_answer wrong = status.Wrong
status_of_answer missing = status.Missing
status_of_answer done = status.Ok
status_of_answer refused = status.Refused
status_of_answer bad = status.Bad
