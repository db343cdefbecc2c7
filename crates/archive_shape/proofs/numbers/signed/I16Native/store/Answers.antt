use Rattle.std.proofs.Common.{rules}
use Rattle.std.specs.Int.{w16}
use Rattle.archive_shape_layout.proofs.NumberReading.{signed_stored}
use Rattle.archive_shape.proofs.numbers.signed.I16Native.store.Goals as goal

pub returns-clause-value : goal.returns-clause-value
returns-clause-value c = signed_stored w16 _ _ c.ranges.self (search rules)
