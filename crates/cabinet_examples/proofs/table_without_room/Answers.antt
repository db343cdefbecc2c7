use Rattle.cabinet_examples.proofs.Refused.{table_without_room}
use Rattle.cabinet_examples.proofs.table_without_room.Goals as goal

pub returns : goal.returns
returns c = table_without_room
