use Rattle.std.proofs.Common.{◌≡◌, ◌≢◌, ℕ, List, Vec, Global, MatchOption, IsUtf8, subst}
use Rattle.cabinet_text_grammar.specs.Spelling.{escaped}
use Rattle.cabinet_text_grammar.proofs.Utf8.{IsUtf8-unescaped}
use Rattle.cabinet_text_bytes.proofs.escape.try_unescape.Goals as goal

pub from_utf8_unchecked-requires : goal.from_utf8_unchecked-requires
from_utf8_unchecked-requires c =
    let read : c.args.argument.now ≡ escaped c.in-Ok-Some.bytes.items = subst (λ o. MatchOption o ((t : List ℕ) → c.args.argument.now ≢ escaped t) (λ (v : Vec ℕ Global). c.args.argument.now ≡ escaped v.items)) c.in-Ok-Some.field-0-is c.in-Ok-Some.ensures.text in
    IsUtf8-unescaped c.in-Ok-Some.bytes.items (subst IsUtf8 read c.requires)

pub returns-in-Some-clause-memory : goal.returns-in-Some-clause-memory
returns-in-Some-clause-memory c =
    let text = c.in-Some.ensures in
    ((text.0, IsUtf8-unescaped text.0 (subst IsUtf8 text.2 c.requires), text.2), c.in-Err.ensures.memory)
