use Rattle.cabinet_examples.proofs.Spoilt.{room_for_nothing}
use Rattle.cabinet_examples.proofs.canonical.spoilt_archives.capacity_without_entries.Goals as goal

pub returns : goal.returns
returns c = room_for_nothing
