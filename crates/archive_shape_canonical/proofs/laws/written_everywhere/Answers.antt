use Rattle.archive_shape_canonical.proofs.Everywhere.{written_everywhere_law}
use Rattle.archive_shape_canonical.proofs.laws.written_everywhere.Goals as goal

pub returns : goal.returns
returns c = written_everywhere_law
