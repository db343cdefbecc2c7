use Rattle.archive_shape_layout.proofs.Visited.{visits_stand_law}
use Rattle.archive_shape_layout.proofs.laws.visits_stand.Goals as goal

pub returns : goal.returns
returns c = visits_stand_law
