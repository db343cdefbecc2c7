use Rattle.archive_forms_tests.proofs.Lists.{next_is, next_written, next_refused}
use Rattle.archive_forms_tests.proofs.recursive.list.+fn-serialize_list-serialize_box_each+serialize_list.Goals as goal

pub returns-in-Ok : goal.returns-in-Ok
returns-in-Ok g t c = next_written _ c.args.list.now c.in-Some.next _ _ c.in-Ok.resolver (next_is c.args.list.now c.in-Some.next c.in-Some.is) c.in-Ok.ensures

pub returns-in-Err : goal.returns-in-Err
returns-in-Err g t c = next_refused _ c.args.list.now c.in-Some.next _ _ c.in-Err.e (next_is c.args.list.now c.in-Some.next c.in-Some.is) c.in-Err.ensures
