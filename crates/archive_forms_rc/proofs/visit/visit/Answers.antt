use Rattle.std.proofs.Common.{arith}
use Rattle.std.proofs.lemmas.Grind.{common_steps}
use Rattle.archive_forms_rc.proofs.visit.visit.Goals as goal

pub returns-in-Finished : goal.returns-in-Finished
returns-in-Finished g c = grind (arith, common_steps)

pub returns-in-Pending : goal.returns-in-Pending
returns-in-Pending g c = grind (arith, common_steps)

pub returns-in-Pending-2 : goal.returns-in-Pending-2
returns-in-Pending-2 g c = grind (arith, common_steps)
