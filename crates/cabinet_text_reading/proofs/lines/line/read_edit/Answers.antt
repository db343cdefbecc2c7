use Rattle.std.proofs.Common.{subst}
use Rattle.cabinet_text_reading.specs.Parts.{RefusesLeaf}
use Rattle.cabinet_text_reading.proofs.Cuts.{edit_path_refused, no_edit, no_memory_for_leaf}
use Rattle.cabinet_text_reading.proofs.lines.line.read_edit.Goals as goal

pub returns-in-Err-clause-refused : goal.returns-in-Err-clause-refused
returns-in-Err-clause-refused c =
    edit_path_refused _ _ _ _ c.in-Err.refusal c.split_head.ensures.whole c.split_head.ensures.cut c.in-Ok.ensures.leaf c.in-Ok.ensures.spelled c.in-Err.ensures.refused

pub returns-then-is_path-clause-refused : goal.returns-then-is_path-clause-refused
returns-then-is_path-clause-refused c =
    no_memory_for_leaf _ _ _ c.split_head.ensures.whole c.if-is_path.ensures.yes (subst (RefusesLeaf c.split_head.result.0.now) c.in-Err-OutOfMemory.field-0-is c.in-Err-OutOfMemory.ensures.refused)

pub returns-in-Err-OutOfMemory-clause-refused : goal.returns-in-Err-OutOfMemory-clause-refused
returns-in-Err-OutOfMemory-clause-refused c = no_edit _ _ _ c.split_head.ensures.cut (λ l p e path. c.if-is_path.ensures.no path)

pub returns-in-Err-Bad-clause-refused : goal.returns-in-Err-Bad-clause-refused
returns-in-Err-Bad-clause-refused c = no_edit _ _ _ c.split_head.ensures.cut (λ l p e path. (subst (RefusesLeaf c.split_head.result.0.now) c.in-Err-Bad.field-0-is c.in-Err-Bad.ensures.refused) l p e)
