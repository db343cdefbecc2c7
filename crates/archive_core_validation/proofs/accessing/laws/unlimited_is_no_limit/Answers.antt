use Rattle.archive_core_validation.proofs.Unlimited.{unlimited_law}
use Rattle.archive_core_validation.proofs.accessing.laws.unlimited_is_no_limit.Goals as goal

pub returns : goal.returns
returns c = unlimited_law
