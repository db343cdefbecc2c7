use Rattle.std.proofs.Common.{rules}
use Rattle.std.specs.Int.{w64}
use Rattle.archive_shape_layout.proofs.NumberReading.{unsigned_stored}
use Rattle.archive_shape.proofs.numbers.unsigned.U64Native.store.Goals as goal

pub returns-clause-value : goal.returns-clause-value
returns-clause-value c = unsigned_stored w64 _ _ c.ranges.self (search rules)
