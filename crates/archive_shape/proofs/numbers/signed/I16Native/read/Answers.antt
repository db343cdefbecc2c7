use Rattle.std.proofs.Common.{rules}
use Rattle.std.specs.Int.{w16}
use Rattle.archive_shape_layout.proofs.NumberReading.{signed_reads}
use Rattle.archive_shape.proofs.numbers.signed.I16Native.read.Goals as goal

pub returns-clause-value : goal.returns-clause-value
returns-clause-value c = signed_reads w16 _ _ (search rules)
