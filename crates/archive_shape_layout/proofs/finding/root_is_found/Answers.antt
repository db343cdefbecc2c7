use Rattle.archive_shape_layout.proofs.Found.{root_is_found}
use Rattle.archive_shape_layout.proofs.finding.root_is_found.Goals as goal

pub returns : goal.returns
returns c = root_is_found
