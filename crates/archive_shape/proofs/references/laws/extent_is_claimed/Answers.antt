use Rattle.archive_shape.proofs.Pointees.{extent_is_claimed_law}
use Rattle.archive_shape.proofs.references.laws.extent_is_claimed.Goals as goal

pub returns : goal.returns
returns c = extent_is_claimed_law
