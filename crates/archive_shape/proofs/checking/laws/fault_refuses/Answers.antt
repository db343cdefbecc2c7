use Rattle.archive_shape.proofs.Refused.{refused_law}
use Rattle.archive_shape.proofs.checking.laws.fault_refuses.Goals as goal

pub returns : goal.returns
returns c = refused_law
