use Rattle.archive_shape_layout.proofs.Ascent.{Ascends-append}
use Rattle.archive_shape_layout.proofs.laws.ascent_splits.Goals as goal

pub returns : goal.returns
returns c = Ascends-append
