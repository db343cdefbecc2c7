use Rattle.cabinet.proofs.Loads.{loaded_is_saved_law}
use Rattle.cabinet.proofs.laws.loaded_is_saved.Goals as goal

pub returns : goal.returns
returns c = loaded_is_saved_law
