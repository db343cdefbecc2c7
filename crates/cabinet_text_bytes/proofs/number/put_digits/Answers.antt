use Rattle.std.proofs.Common.{◌≡◌, ◌+◌, ◌-◌, ◌/◌, ◌<◌, ◌++◌, append-nil, length, ap, ◌∙◌, arith}
use Rattle.std.proofs.Math.ListN.{length-set}
use Rattle.std.proofs.lemmas.List.{drop_all}
use Rattle.std.proofs.lemmas.Fmt.{decimal_nonempty, length-decimal-le}
use Rattle.std.specs.Fmt.{decimal}
use Rattle.cabinet_text_bytes.proofs.Numbers.{digit_put, last_digit_put, length_shorter}
use Rattle.cabinet_text_bytes.proofs.number.put_digits.Goals as goal

pub loop-rest-init : goal.loop-rest-init
loop-rest-init c =
    let bound = c.ranges.number in
    record {
      below = omega arith;
      long = omega arith;
      start = omega arith;
      room = length-decimal-le 20 c.args.number (omega arith) (omega arith) (omega arith);
      digits = ap (λ d. decimal c.args.number ++ d) (drop_all 21 c.args.bytes.now (omega arith)) ∙ append-nil _;
    }

pub overflow_sub-start-in-loop-rest : goal.overflow_sub-start-in-loop-rest
overflow_sub-start-in-loop-rest c =
    let i = c.loop-rest.invariant in
    let nonempty = decimal_nonempty c.loop-rest.rest i.below in
    omega arith

pub loop-rest-preserved : goal.loop-rest-preserved
loop-rest-preserved c =
    let i = c.loop-rest.invariant in
    let shorter = length_shorter c.loop-rest.rest c.loop-rest-test.true i.below in
    let below : c.loop-rest.rest / 10 < 18446744073709551616 = omega arith in
    let nonempty = decimal_nonempty (c.loop-rest.rest / 10) below in
    let place : (c.loop-rest.start - 1) + 1 ≡ c.loop-rest.start = omega arith in
    record {
      below = below;
      long = length-set _ _ _ ∙ i.long;
      start = omega arith;
      room = omega arith;
      digits = rw place (digit_put c.loop-rest.bytes c.loop-rest.start c.loop-rest.rest c.loop-rest-test.true i.below (omega arith) ∙ i.digits);
    }

pub returns : goal.returns
returns c =
    let i = c.loop-rest.invariant in
    let nonempty = decimal_nonempty c.loop-rest.rest i.below in
    let room : c.loop-rest.start < length c.loop-rest.bytes = omega arith in
    record {
      digits = last_digit_put c.loop-rest.bytes c.loop-rest.start c.loop-rest.rest c.loop-rest-test.false room ∙ i.digits;
      before = omega arith;
      within = omega arith;
    }
