use Rattle.cabinet_examples.proofs.Spoilt.{marked_slot}
use Rattle.cabinet_examples.proofs.canonical.spoilt_archives.unused_slot_that_is_not_zero.Goals as goal

pub returns : goal.returns
returns c = marked_slot
