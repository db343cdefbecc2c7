use Rattle.std.proofs.Common.{codes, refl}
use Rattle.cabinet_text_grammar.proofs.FirstCauses.{key_expected}
use Rattle.cabinet_text_reading.proofs.Causes.{first_of}
use Rattle.cabinet_text_reading.proofs.Heads.{after_word, not_after_word, after_word_utf8, escaped_where_counted}
use Rattle.cabinet_text_reading.proofs.line.read_key_argument.Goals as goal

pub returns-in_default-clause-fault : goal.returns-in_default-clause-fault
returns-in_default-clause-fault c = λ kind keys.
    first_of (key_expected kind keys _ c.utf8.line (not_after_word _ _ _ (codes "'") c.as_bytes-bytes.ensures.value c.as_slice.ensures c.in_default.ensures))

pub returns-clause-argument : goal.returns-clause-argument
returns-clause-argument c =
    let line = after_word _ _ _ (codes "'") _ c.as_bytes-bytes.ensures.value c.as_slice.ensures c.in-Some.ensures in
    escaped_where_counted _ c.unescaped_len.result _ c.is_none.ensures c.if-is_none.false (after_word_utf8 (codes "'") _ _ refl line c.utf8.line) c.unescaped_len.ensures
