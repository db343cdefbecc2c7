use Rattle.std.proofs.Common.{◌∷◌, ◌++◌, ap, ◌∙◌, rules}
use Rattle.cabinet_text_reading.proofs.Paths.{no_sign}
use Rattle.cabinet_text_reading.proofs.lines.path.read_step.Goals as goal

pub returns-in-Some : goal.returns-in-Some
returns-in-Some c =
    (search rules, c.in-Some.ensures ∙ ap (λ w. w ++ c.in-Some.digits.now) c.as_slice-2.ensures ∙ ap (λ w. 35 ∷ w) c.in-Some-read_count.ensures)

pub returns-in_default-after_prefix : goal.returns-in_default-after_prefix
returns-in_default-after_prefix c =
    no_sign _ _ _ _ (search rules) c.as_slice.ensures c.in_default.ensures c.as_slice-2.ensures c.in_default-after_prefix.ensures c.as_slice-3.ensures

pub returns : goal.returns
returns c = (tt, c.in-Some-after_prefix.ensures ∙ ap (λ w. w ++ c.in-Some-after_prefix.argument.now) c.as_slice-3.ensures)
