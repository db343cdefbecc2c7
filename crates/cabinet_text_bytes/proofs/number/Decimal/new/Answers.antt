use Rattle.std.proofs.Common.{◌<◌, length, ap, ◌∙◌, arith, w64}
use Rattle.std.specs.Fmt.{decimal, signed_decimal}
use Rattle.std.proofs.lemmas.Int.{to_z-of_z}
use Rattle.cabinet_text_bytes.proofs.Numbers.{signed_from_zero_on, sign_put}
use Rattle.cabinet_text_bytes.proofs.number.Decimal.new.Goals as goal
use Rattle.cabinet_text_bytes.proofs.number.Decimal.new.Goals.{then-number-lt0, else-number-lt0}

pub returns : goal.returns
returns c =
    let start = c.put_digits-start.result in
    let bytes = c.put_digits-start.new.bytes in
    let digits = c.put_digits-start.ensures.digits ∙ ap decimal c.unsigned_abs.ensures.value in
    let within : start < length bytes = omega (arith, c.put_digits-start.array_long) in
    let same = ap signed_decimal (to_z-of_z w64 c.args.number c.ranges.number) in
    elim c.if-number-lt0.branch [
      | then-number-lt0 w ↦ rw (w.start-is, w.bytes-is) (sign_put bytes start _ c.put_digits-start.ensures.before within digits w.if-number-lt0.true ∙ same)
      | else-number-lt0 w ↦ rw (w.start-is, w.bytes-is) (digits ∙ signed_from_zero_on _ w.if-number-lt0.false ∙ same)
    ]
