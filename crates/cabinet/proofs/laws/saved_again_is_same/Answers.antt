use Rattle.cabinet.proofs.Loads.{saved_again_is_same_law}
use Rattle.cabinet.proofs.laws.saved_again_is_same.Goals as goal

pub returns : goal.returns
returns c = saved_again_is_same_law
