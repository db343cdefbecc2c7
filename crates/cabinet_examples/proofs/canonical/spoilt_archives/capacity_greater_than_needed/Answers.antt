use Rattle.cabinet_examples.proofs.Spoilt.{room_to_spare}
use Rattle.cabinet_examples.proofs.canonical.spoilt_archives.capacity_greater_than_needed.Goals as goal

pub returns : goal.returns
returns c = room_to_spare
