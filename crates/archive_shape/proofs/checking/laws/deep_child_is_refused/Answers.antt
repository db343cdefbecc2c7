use Rattle.archive_shape.proofs.Levels.{deep_child_law}
use Rattle.archive_shape.proofs.checking.laws.deep_child_is_refused.Goals as goal

pub returns : goal.returns
returns c = deep_child_law
