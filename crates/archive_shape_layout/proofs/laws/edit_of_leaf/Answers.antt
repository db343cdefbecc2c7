use Rattle.archive_shape_layout.proofs.Edits.{edit_of_leaf_law}
use Rattle.archive_shape_layout.proofs.laws.edit_of_leaf.Goals as goal

pub returns : goal.returns
returns c = edit_of_leaf_law
