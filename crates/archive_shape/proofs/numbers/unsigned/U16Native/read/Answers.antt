use Rattle.std.proofs.Common.{rules}
use Rattle.std.specs.Int.{w16}
use Rattle.archive_shape_layout.proofs.NumberReading.{unsigned_reads}
use Rattle.archive_shape.proofs.numbers.unsigned.U16Native.read.Goals as goal

pub returns-clause-value : goal.returns-clause-value
returns-clause-value c = unsigned_reads w16 _ _ (search rules)
