use Rattle.std.proofs.Common.{◌++◌, sym, ap, ◌∙◌, subst, refl, codes, rules}
use Rattle.cabinet_text_reading.specs.Added.{RefusesNode}
use Rattle.cabinet_text_reading.proofs.Cuts.{not_after}
use Rattle.cabinet_text_reading.proofs.EditLineLemmas.{empty_list, empty_ordered, empty_hashed, empty_kept, empty_spelled, shared_refused, leaf_refused}
use Rattle.cabinet_text_reading.proofs.lines.edit.read_node.Goals as goal

pub returns-in-Err-clause-refused : goal.returns-in-Err-clause-refused
returns-in-Err-clause-refused c =
    let head = c.in-Some.ensures ∙ ap (λ w. w ++ c.in-Some.argument.now) c.as_slice.ensures in
    subst (λ w. RefusesNode w c.in-Err.refusal) (sym head) (shared_refused _ _ c.in-Err.ensures.refused)

pub returns-then-eq-2-clause-spelled : goal.returns-then-eq-2-clause-spelled
returns-then-eq-2-clause-spelled c = empty_spelled (codes "list ") _ _ _ (empty_list _ c.new.ensures.items) refl (search rules)

pub returns-then-eq-3-clause-spelled : goal.returns-then-eq-3-clause-spelled
returns-then-eq-3-clause-spelled c = empty_spelled (codes "ordered ") _ _ _ (empty_ordered _ c.new-then-eq-3.ensures.empty) refl (search rules)

pub returns-then-eq-4-clause-spelled : goal.returns-then-eq-4-clause-spelled
returns-then-eq-4-clause-spelled c = empty_spelled (codes "hashed ") _ _ _ (empty_hashed _ c.new-then-eq-4.ensures.empty) refl (search rules)

pub returns-then-eq-5-clause-spelled : goal.returns-then-eq-5-clause-spelled
returns-then-eq-5-clause-spelled c = empty_spelled (codes "kept ") _ _ _ (empty_kept _ c.new-then-eq-5.ensures.items) refl (search rules)

pub returns-in-Err-read_leaf-clause-refused : goal.returns-in-Err-read_leaf-clause-refused
returns-in-Err-read_leaf-clause-refused c =
    leaf_refused _ _ (not_after _ _ _ c.as_slice.ensures c.in_default.ensures)
    (search rules) (search rules) (search rules) (search rules) (search rules) c.in-Err-read_leaf.ensures.refused
