use Rattle.cabinet_text_reading.proofs.Heads.{count_unread}
use Rattle.cabinet_text_reading.proofs.head.read_counted.Goals as goal

pub returns-in_default-clause-fault : goal.returns-in_default-clause-fault
returns-in_default-clause-fault c table are is_table = count_unread table c.args.depth c.args.container c.args.digits.now c.requires c.in_default.ensures
