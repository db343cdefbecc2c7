use Rattle.std.proofs.Common.{◌+◌, arith}
use Rattle.std.proofs.lemmas.List.{take_all}
use Rattle.std.proofs.lemmas.Str.{digit_value_digit}
use Rattle.std.proofs.lemmas.Str.Parse.{digit_at, digits_value-take-le}
use Rattle.std.proofs.lemmas.Int.Digits.{digits_value_more, digits_more}
use Rattle.cabinet_text_bytes.proofs.number.value_of.Goals as goal

pub returns-then-not-is_ascii_digit : goal.returns-then-not-is_ascii_digit
returns-then-not-is_ascii_digit c = λ all.
    let digit = digit_at c.args.digits.now c.loop-byte.byte-index all c.loop-byte-test.true in
    let other = c.if-not-is_ascii_digit.ensures.cases in
    absurd (omega arith)

pub returns-in_default : goal.returns-in_default
returns-in_default c = λ all.
    let more = digits_value_more 10 c.args.digits.now c.loop-byte.byte-index c.loop-byte-test.true in
    let most = digits_value-take-le 10 c.args.digits.now (c.loop-byte.byte-index + 1) (omega arith) in
    omega (arith, c.in_default.ensures)

pub returns-in_default-checked_add : goal.returns-in_default-checked_add
returns-in_default-checked_add c = λ all.
    let digit = digit_value_digit _ c.if-not-is_ascii_digit.ensures.cases in
    let more = digits_value_more 10 c.args.digits.now c.loop-byte.byte-index c.loop-byte-test.true in
    let most = digits_value-take-le 10 c.args.digits.now (c.loop-byte.byte-index + 1) (omega arith) in
    omega (arith, c.in_default-checked_add.ensures, c.in-Some.ensures)

pub loop-byte-preserved : goal.loop-byte-preserved
loop-byte-preserved c =
    let digit = digit_value_digit _ c.if-not-is_ascii_digit.ensures.cases in
    let more = digits_value_more 10 c.args.digits.now c.loop-byte.byte-index c.loop-byte-test.true in
    record {
      below = omega (arith, c.in-Some-checked_add.ensures);
      digits = digits_more 10 c.args.digits.now c.loop-byte.byte-index c.loop-byte-test.true c.loop-byte.invariant.digits c.if-not-is_ascii_digit.ensures.bound;
      value = omega (arith, c.in-Some.ensures, c.in-Some-checked_add.ensures);
    }

pub returns : goal.returns
returns c =
    let whole = take_all c.loop-byte.byte-index c.args.digits.now c.loop-byte-test.false in
    (c.loop-byte.invariant.below, rw whole at c.loop-byte.invariant.digits, rw whole at c.loop-byte.invariant.value)
