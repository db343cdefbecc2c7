use Rattle.std.proofs.Common.{◌++◌, sym, ap, ◌∙◌, arith}
use Rattle.cabinet_text_bytes.proofs.Numbers.{no_distance, no_number, count_too_great}
use Rattle.cabinet_text_bytes.proofs.number.read_number.Goals as goal

pub returns-in_default-read_count : goal.returns-in_default-read_count
returns-in_default-read_count c =
    no_distance _ _ (c.in-Some.ensures ∙ ap (λ w. w ++ c.in-Some.digits.now) c.as_slice.ensures) c.in_default-read_count.ensures

pub returns-in_default-read_count-2 : goal.returns-in_default-read_count-2
returns-in_default-read_count-2 c =
    no_number _ (λ digits e. c.in_default.ensures digits (e ∙ ap (λ w. w ++ digits) (sym c.as_slice.ensures))) c.in_default-read_count-2.ensures

pub returns-else-count-lt-MIN_MAGNITUDE : goal.returns-else-count-lt-MIN_MAGNITUDE
returns-else-count-lt-MIN_MAGNITUDE c = λ z fits e.
    count_too_great c.in-Some-read_count-2.count z (omega arith) c.if-count-lt-MIN_MAGNITUDE.false fits (sym c.in-Some-read_count-2.ensures ∙ e)
