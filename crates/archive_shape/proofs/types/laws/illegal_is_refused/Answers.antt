use Rattle.archive_shape_layout.proofs.NumberReading.{illegal_is_refused_law}
use Rattle.archive_shape.proofs.types.laws.illegal_is_refused.Goals as goal

pub returns : goal.returns
returns c = illegal_is_refused_law
