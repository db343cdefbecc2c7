use Rattle.archive_shape.proofs.Written.{overwrite_spares_law}
use Rattle.archive_shape.proofs.references.laws.overwrite_spares.Goals as goal

pub returns : goal.returns
returns c = overwrite_spares_law
