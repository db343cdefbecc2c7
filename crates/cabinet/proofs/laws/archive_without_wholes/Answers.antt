use Rattle.cabinet.proofs.WithoutWholes.{archive_without_wholes_law}
use Rattle.cabinet.proofs.laws.archive_without_wholes.Goals as goal

pub returns : goal.returns
returns c = archive_without_wholes_law
