use Rattle.archive_shape_canonical.proofs.One.{one_archive_law}
use Rattle.archive_shape_canonical.proofs.laws.one_archive.Goals as goal

pub returns : goal.returns
returns c = one_archive_law
