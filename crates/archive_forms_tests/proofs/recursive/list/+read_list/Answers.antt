use Rattle.archive_forms_tests.proofs.Named.{list_has}
use Rattle.archive_forms_tests.proofs.Lists.{list_read}
use Rattle.archive_forms_tests.proofs.recursive.list.+read_list.Goals as goal

pub deserialize_option_each-next-requires-clause-there : goal.deserialize_option_each-next-requires-clause-there
deserialize_option_each-next-requires-clause-there t c = list_has c.args.bytes.now c.args.pos c.requires

pub returns-in-Ok : goal.returns-in-Ok
returns-in-Ok t c = list_read c.args.bytes.now c.args.pos c.in-Ok.next c.in-Ok.ensures.value
