use Rattle.archive_shape_layout.proofs.Stood.{value_at_path_law}
use Rattle.archive_shape_layout.proofs.laws.value_at_path.Goals as goal

pub returns : goal.returns
returns c = value_at_path_law
