use Rattle.std.proofs.Common.{arith}
use Rattle.std.proofs.lemmas.Grind.{common_steps}
use Rattle.std.specs.Int.{w8}
use Rattle.archive_shape_layout.proofs.NumberReading.{signed_reads}
use Rattle.archive_shape.proofs.types.signed_byte.I8ArchivedLeaf.read.Goals as goal

pub returns-clause-value : goal.returns-clause-value
returns-clause-value c = signed_reads w8 _ _ (grind (arith, common_steps))
