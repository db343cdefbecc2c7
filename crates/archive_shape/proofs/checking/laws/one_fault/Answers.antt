use Rattle.archive_shape.proofs.Once.{one_fault_law}
use Rattle.archive_shape.proofs.checking.laws.one_fault.Goals as goal

pub returns : goal.returns
returns c = one_fault_law
