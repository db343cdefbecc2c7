use Rattle.std.proofs.Common.{arith}
use Rattle.std.proofs.lemmas.Grind.{common_steps}
use Rattle.archive_core_validation.proofs.shared_validator.SharedEntry.met_again.Goals as goal

pub returns-then-not-same_pointee : goal.returns-then-not-same_pointee
returns-then-not-same_pointee c = grind (arith, common_steps)

pub returns-then-self-len : goal.returns-then-self-len
returns-then-self-len c = grind (arith, common_steps)

pub returns-then-self : goal.returns-then-self
returns-then-self c = grind (arith, common_steps)

pub returns-else-self : goal.returns-else-self
returns-else-self c = grind (arith, common_steps)
