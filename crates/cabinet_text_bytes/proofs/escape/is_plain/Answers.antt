use Rattle.std.proofs.Common.{rules}
use Rattle.std.proofs.lemmas.Iterator.{YieldsList-from_slice}
use Rattle.std.proofs.lemmas.Iterator.Search.{all_from_yields_List}
use Rattle.cabinet_text_bytes.specs.Words.{is_plain_byte}
use Rattle.cabinet_text_bytes.proofs.escape.is_plain.Goals as goal

pub returns : goal.returns
returns c =
    rw c.loop-rest.invariant
    (all_from_yields_List is_plain_byte _ _ c.all.result c.all.ensures.ran
    (YieldsList-from_slice c.loop-rest.rest.now cc) (λ x b q k. search rules))
