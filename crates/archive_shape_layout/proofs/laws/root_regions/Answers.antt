use Rattle.archive_shape_layout.proofs.Rooted.{root_law}
use Rattle.archive_shape_layout.proofs.laws.root_regions.Goals as goal

pub returns : goal.returns
returns c = root_law
