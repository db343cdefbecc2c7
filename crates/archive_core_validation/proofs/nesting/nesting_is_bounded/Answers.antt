use Rattle.archive_core_validation.proofs.Bounded.{nesting_law}
use Rattle.archive_core_validation.proofs.nesting.nesting_is_bounded.Goals as goal

pub returns : goal.returns
returns c = nesting_law
