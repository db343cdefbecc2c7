use Rattle.std.proofs.Common.{arith}
use Rattle.std.proofs.lemmas.Grind.{common_steps}
use Rattle.archive_shape_layout.proofs.NumberReading.{truth_reads}
use Rattle.archive_shape.proofs.types.truth.BoolArchivedLeaf.read.Goals as goal

pub returns-clause-value : goal.returns-clause-value
returns-clause-value c = truth_reads _ _ (grind (arith, common_steps))
