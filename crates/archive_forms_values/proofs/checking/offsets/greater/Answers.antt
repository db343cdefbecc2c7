use Rattle.std.proofs.Common.{arith}
use Rattle.std.proofs.lemmas.Grind.{common_steps}
use Rattle.archive_forms_values.proofs.checking.offsets.greater.Goals as goal

pub returns-then-first-second : goal.returns-then-first-second
returns-then-first-second c = grind (arith, common_steps)

pub returns-else-first-second : goal.returns-else-first-second
returns-else-first-second c = grind (arith, common_steps)
