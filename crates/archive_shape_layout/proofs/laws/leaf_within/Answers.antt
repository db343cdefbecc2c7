use Rattle.archive_shape_layout.proofs.Leaves.{leaf_within_law}
use Rattle.archive_shape_layout.proofs.laws.leaf_within.Goals as goal

pub returns : goal.returns
returns c = leaf_within_law
