use Rattle.std.proofs.Common.{◌++◌, sym, ap, ◌∙◌, subst}
use Rattle.cabinet_text_reading.specs.Reading.{RefusesEditLine}
use Rattle.cabinet_text_reading.proofs.Cuts.{not_after}
use Rattle.cabinet_text_reading.proofs.EditLineLemmas.{put_refused, insert_refused, remove_refused, about_refused}
use Rattle.cabinet_text_reading.proofs.lines.edit.read_edit_line.Goals as goal

pub returns-in-Err-clause-refused : goal.returns-in-Err-clause-refused
returns-in-Err-clause-refused c =
    let line = c.in-Some.ensures ∙ ap (λ w. w ++ c.in-Some.added.now) c.as_slice.ensures in
    subst (λ w. RefusesEditLine w c.in-Err.refusal) (sym line) (put_refused _ _ c.in-Err.ensures.refused)

pub returns-in-Err-read_added-clause-refused : goal.returns-in-Err-read_added-clause-refused
returns-in-Err-read_added-clause-refused c =
    let line = c.in-Some-after_prefix.ensures ∙ ap (λ w. w ++ c.in-Some-after_prefix.added.now) c.as_slice-2.ensures in
    subst (λ w. RefusesEditLine w c.in-Err-read_added.refusal) (sym line) (insert_refused _ _ c.in-Err-read_added.ensures.refused)

pub returns-in-Err-read_path-clause-refused : goal.returns-in-Err-read_path-clause-refused
returns-in-Err-read_path-clause-refused c =
    let line = c.in-Some-after_prefix-2.ensures ∙ ap (λ w. w ++ c.in-Some-after_prefix-2.path.now) c.as_slice-3.ensures in
    subst (λ w. RefusesEditLine w c.in-Err-read_path.refusal) (sym line) (remove_refused _ _ c.in-Err-read_path.ensures.refused)

pub returns-in-Err-read_line-clause-refused : goal.returns-in-Err-read_line-clause-refused
returns-in-Err-read_line-clause-refused c =
    about_refused _ _
    (not_after _ _ _ c.as_slice.ensures c.in_default.ensures)
    (not_after _ _ _ c.as_slice-2.ensures c.in_default-after_prefix.ensures)
    (not_after _ _ _ c.as_slice-3.ensures c.in_default-after_prefix-2.ensures)
    c.in-Err-read_line.ensures.refused
