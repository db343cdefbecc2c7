use Rattle.std.proofs.Common.{◌≡◌, ◌<◌, ◌++◌, ◌∷◌, [], length, refl, arith, ◌∙◌}
use Rattle.std.proofs.lemmas.List.{length_push}
use Rattle.std.proofs.lemmas.Bool.Decides.{nat_tests}
use Rattle.cabinet_text_grammar.proofs.Escapes.{one_more, none_more, shorter, form_of, all_read}
use Rattle.cabinet_text_bytes.proofs.escape.count_bytes.Goals as goal

pub loop-rest-init : goal.loop-rest-init
loop-rest-init c = record { text = []; counted = refl; escapes = refl; room = omega arith }

pub loop-rest-preserved : goal.loop-rest-preserved
loop-rest-preserved c =
    let read = c.loop-rest.invariant in
    let b = c.in-Some.field-0-0 in
    let less = shorter b _ _ _ (form_of b) c.in-Some.ensures in
    record {
      text = read.text ++ b ∷ [];
      counted = length_push read.text b ∙ omega arith;
      escapes = one_more _ read.text _ _ b read.escapes c.in-Some.ensures;
      room = omega arith;
    }

pub returns-in_default : goal.returns-in_default
returns-in_default c =
    let read = c.loop-rest.invariant in
    let more : 0 < length c.loop-rest.rest.now = grind (arith, nat_tests) in
    none_more _ read.text _ read.escapes c.in_default.ensures more

pub returns : goal.returns
returns c =
    let none_left : length c.loop-rest.rest.now ≡ 0 = grind (arith, nat_tests) in
    all_read _ _ _ c.loop-rest.invariant none_left
