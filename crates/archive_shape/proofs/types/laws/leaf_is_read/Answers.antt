use Rattle.archive_shape_layout.proofs.NumberReading.{leaf_is_read_law}
use Rattle.archive_shape.proofs.types.laws.leaf_is_read.Goals as goal

pub returns : goal.returns
returns c = leaf_is_read_law
