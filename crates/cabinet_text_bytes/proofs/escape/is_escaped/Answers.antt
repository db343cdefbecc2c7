use Rattle.std.proofs.Common.{IsUtf8, subst, sym}
use Rattle.cabinet_text_grammar.proofs.Utf8.{IsUtf8-escaped}
use Rattle.cabinet_text_bytes.proofs.Counted.{escaped_where_counted}
use Rattle.cabinet_text_bytes.proofs.escape.is_escaped.Goals as goal

pub returns-in-Ok-clause-yes : goal.returns-in-Ok-clause-yes
returns-in-Ok-clause-yes c = escaped_where_counted _ c.unescaped_len.result _ c.is_some.ensures c.in-Ok.ensures.cases.1 c.unescaped_len.ensures

pub returns-in-Err-clause-no : goal.returns-in-Err-clause-no
returns-in-Err-clause-no c = λ h. c.in-Err.ensures.cases.0 (subst IsUtf8 (sym h.2) (IsUtf8-escaped h.0 h.1))
