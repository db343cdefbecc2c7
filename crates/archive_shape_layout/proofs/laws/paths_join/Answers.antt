use Rattle.archive_shape_layout.proofs.Stood.{paths_join_law}
use Rattle.archive_shape_layout.proofs.laws.paths_join.Goals as goal

pub returns : goal.returns
returns c = paths_join_law
