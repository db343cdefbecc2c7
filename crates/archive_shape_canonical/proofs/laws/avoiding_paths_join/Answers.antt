use Rattle.archive_shape_canonical.proofs.Joining.{avoiding_paths_join_law}
use Rattle.archive_shape_canonical.proofs.laws.avoiding_paths_join.Goals as goal

pub returns : goal.returns
returns c = avoiding_paths_join_law
