use Rattle.std.proofs.Common.{length, get_or, ◌≡◌, ◌<◌, ap, sym, ◌∙◌, arith}
use Rattle.std.proofs.lemmas.Fmt.{decimal_nonempty}
use Rattle.std.proofs.lemmas.Bool.Decides.{nat_tests}
use Rattle.cabinet_text_bytes.proofs.Numbers.{count_read, leading_zero}
use Rattle.cabinet_text_bytes.proofs.number.read_count.Goals as goal

pub returns-then-is_empty : goal.returns-then-is_empty
returns-then-is_empty c = λ n below e.
    let empty : length c.args.digits.now ≡ 0 = grind (arith, nat_tests) in
    absurd (omega (arith, ap length e, decimal_nonempty n below))

pub returns-then-digits-gt1 : goal.returns-then-digits-gt1
returns-then-digits-gt1 c = λ n below e.
    let zero : get_or c.args.digits.now 0 0 ≡ 48 = omega arith in
    absurd (omega (arith, ap length e, leading_zero n below (ap (λ l. get_or l 0 0) (sym e) ∙ zero)))

pub returns : goal.returns
returns c =
    let some : 0 < length c.args.digits.now = grind (arith, nat_tests) in
    count_read c.args.digits.now _ some (λ zero. omega arith) c.value_of.ensures
