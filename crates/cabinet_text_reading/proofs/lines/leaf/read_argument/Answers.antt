use Rattle.std.proofs.Common.{subst, IsUtf8, sym}
use Rattle.std.proofs.lemmas.Str.{IsUtf8-string_bytes}
use Rattle.cabinet_text_grammar.proofs.Utf8.{IsUtf8-escaped}
use Rattle.cabinet_text_reading.proofs.lines.leaf.read_argument.Goals as goal

pub returns-in-Err-clause-refused : goal.returns-in-Err-clause-refused
returns-in-Err-clause-refused c t utf8 h = c.in-Err.ensures.cases.0 (subst IsUtf8 (sym h) (IsUtf8-escaped t utf8))

pub returns-in-Ok-Some-clause-text : goal.returns-in-Ok-Some-clause-text
returns-in-Ok-Some-clause-text c = IsUtf8-string_bytes c.in-Ok-Some.text
