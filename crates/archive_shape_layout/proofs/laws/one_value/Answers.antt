use Rattle.archive_shape_layout.proofs.Unique.{one_value_law}
use Rattle.archive_shape_layout.proofs.laws.one_value.Goals as goal

pub returns : goal.returns
returns c = one_value_law
