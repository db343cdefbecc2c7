use Rattle.std.proofs.Common.{arith}
use Rattle.std.proofs.lemmas.Grind.{common_steps}
use Rattle.archive_core_serializing.proofs.shares.pool.PoolPooling.start_pooling.Goals as goal

pub returns-in-Vacant : goal.returns-in-Vacant
returns-in-Vacant g c = grind (arith, common_steps)
