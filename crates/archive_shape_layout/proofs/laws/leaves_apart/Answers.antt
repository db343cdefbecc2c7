use Rattle.archive_shape_layout.proofs.Leaves.{leaves_apart_law}
use Rattle.archive_shape_layout.proofs.laws.leaves_apart.Goals as goal

pub returns : goal.returns
returns c = leaves_apart_law
