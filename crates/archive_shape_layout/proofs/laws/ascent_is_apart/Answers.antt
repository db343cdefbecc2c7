use Rattle.archive_shape_layout.proofs.Ascent.{ascends_apart}
use Rattle.archive_shape_layout.proofs.laws.ascent_is_apart.Goals as goal

pub returns : goal.returns
returns c = ascends_apart
