use Rattle.archive_shape_layout.proofs.Readable.{held_leaf_is_read_law}
use Rattle.archive_shape.proofs.types.laws.held_leaf_is_read.Goals as goal

pub returns : goal.returns
returns c = held_leaf_is_read_law
