use Rattle.std.proofs.Common.{arith}
use Rattle.std.proofs.lemmas.Grind.{common_steps}
use Rattle.archive_shape_layout.proofs.NumberReading.{byte_reads}
use Rattle.archive_shape.proofs.types.byte.U8ArchivedLeaf.read.Goals as goal

pub returns-clause-value : goal.returns-clause-value
returns-clause-value c = byte_reads _ _ (grind (arith, common_steps))
