use Rattle.std.proofs.Common.{subst}
use Rattle.cabinet_text_reading.specs.Added.{RefusesNode}
use Rattle.cabinet_text_reading.proofs.EditLineLemmas.{added_spelled, no_memory_for_node, no_added, added_path_refused}
use Rattle.cabinet_text_reading.proofs.lines.edit.read_added.Goals as goal

pub returns-in-Err-clause-refused : goal.returns-in-Err-clause-refused
returns-in-Err-clause-refused c =
    let split = c.split_head.ensures in
    added_path_refused _ _ _ split.whole split.cut _ c.in-Err.refusal c.in-Ok.ensures.alone c.in-Ok.ensures.spelled c.in-Err.ensures.refused

pub returns-then-is_path-clause-refused : goal.returns-then-is_path-clause-refused
returns-then-is_path-clause-refused c =
    let head = c.split_head.result.0.now in
    no_memory_for_node _ _ _ c.split_head.ensures.whole c.if-is_path.ensures.yes
    (subst (RefusesNode head) c.in-Err-OutOfMemory.field-0-is c.in-Err-OutOfMemory.ensures.refused)

pub returns-in-Err-OutOfMemory-clause-refused : goal.returns-in-Err-OutOfMemory-clause-refused
returns-in-Err-OutOfMemory-clause-refused c =
    no_added _ _ _ c.split_head.ensures.whole c.split_head.ensures.cut (λ t p e path. c.if-is_path.ensures.no path)

pub returns-in-Err-Bad-clause-refused : goal.returns-in-Err-Bad-clause-refused
returns-in-Err-Bad-clause-refused c =
    let none = subst (RefusesNode c.split_head.result.0.now) c.in-Err-Bad.field-0-is c.in-Err-Bad.ensures.refused in
    no_added _ _ _ c.split_head.ensures.whole c.split_head.ensures.cut (λ t p e path. none t p e)

pub returns-in-Ok-read_path-clause-said : goal.returns-in-Ok-read_path-clause-said
returns-in-Ok-read_path-clause-said c =
    let path = c.in-Ok-read_path.ensures in
    added_spelled _ _ _ c.split_head.ensures.whole _ _ path.steps c.in-Ok.ensures.alone c.in-Ok.ensures.spelled path.spelled
