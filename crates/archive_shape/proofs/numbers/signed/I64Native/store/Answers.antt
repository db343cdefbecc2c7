use Rattle.std.proofs.Common.{rules}
use Rattle.std.specs.Int.{w64}
use Rattle.archive_shape_layout.proofs.NumberReading.{signed_stored}
use Rattle.archive_shape.proofs.numbers.signed.I64Native.store.Goals as goal

pub returns-clause-bytes : goal.returns-clause-bytes
returns-clause-bytes c = search rules

pub returns-clause-value : goal.returns-clause-value
returns-clause-value c = signed_stored w64 _ _ c.ranges.self (search rules)
