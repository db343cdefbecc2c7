use Rattle.std.proofs.Common.{◌++◌, sym, ap, ◌∙◌, subst, rules}
use Rattle.cabinet_text_reading.specs.Reading.{RefusesLine}
use Rattle.cabinet_text_reading.proofs.Cuts.{get_refused, keys_refused, no_line, not_after}
use Rattle.cabinet_text_reading.proofs.lines.line.read_line.Goals as goal

pub returns-in-Err-clause-refused : goal.returns-in-Err-clause-refused
returns-in-Err-clause-refused c =
    let line = c.in-Some.ensures ∙ ap (λ w. w ++ c.in-Some.path.now) c.as_slice.ensures in
    subst (λ w. RefusesLine w c.in-Err.refusal) (sym line) (get_refused _ _ c.in-Err.ensures.refused)

pub returns-in-Err-read_path-clause-refused : goal.returns-in-Err-read_path-clause-refused
returns-in-Err-read_path-clause-refused c =
    let line = c.in-Some-after_prefix.ensures ∙ ap (λ w. w ++ c.in-Some-after_prefix.path.now) c.as_slice-2.ensures in
    subst (λ w. RefusesLine w c.in-Err-read_path.refusal) (sym line) (keys_refused _ _ c.in-Err-read_path.ensures.refused)

pub returns-in_default-after_prefix-3-clause-refused : goal.returns-in_default-after_prefix-3-clause-refused
returns-in_default-after_prefix-3-clause-refused c =
    no_line _
    (not_after _ _ _ c.as_slice.ensures c.in_default.ensures)
    (not_after _ _ _ c.as_slice-2.ensures c.in_default-after_prefix.ensures)
    (not_after _ _ _ c.as_slice-3.ensures c.in_default-after_prefix-2.ensures)
    (not_after _ _ _ c.as_slice-4.ensures c.in_default-after_prefix-3.ensures)

pub returns-in-Ok-read_path-clause-said : goal.returns-in-Ok-read_path-clause-said
returns-in-Ok-read_path-clause-said c = search rules
