use Rattle.cabinet.proofs.Saves.{edited_as_in_place}
use Rattle.cabinet.proofs.laws.edited_as_in_place.Goals as goal

pub returns : goal.returns
returns c = edited_as_in_place
