use Rattle.std.proofs.Common.{rules}
use Rattle.std.specs.Int.{w32}
use Rattle.archive_shape_layout.proofs.NumberReading.{unsigned_stored}
use Rattle.archive_shape.proofs.numbers.unsigned.U32Native.store.Goals as goal

pub returns-clause-bytes : goal.returns-clause-bytes
returns-clause-bytes c = search rules

pub returns-clause-value : goal.returns-clause-value
returns-clause-value c = unsigned_stored w32 _ _ c.ranges.self (search rules)
