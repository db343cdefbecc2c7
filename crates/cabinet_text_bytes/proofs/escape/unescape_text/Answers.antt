use Rattle.std.proofs.Common.{◌≡◌, IsUtf8, subst, sym, ◌∙◌}
use Rattle.cabinet_text_grammar.specs.Spelling.{escaped}
use Rattle.cabinet_text_grammar.proofs.Escapes.{escaped_injective}
use Rattle.cabinet_text_bytes.proofs.escape.unescape_text.Goals as goal

pub from_utf8_unchecked-requires : goal.from_utf8_unchecked-requires
from_utf8_unchecked-requires c =
    let text = c.requires in
    let read : c.args.argument.now ≡ escaped c.in-Some.bytes.items = rw c.in-Some.is at c.in_ok-bytes.ensures.text in
    subst IsUtf8 (escaped_injective _ _ (sym text.2 ∙ read)) text.1
