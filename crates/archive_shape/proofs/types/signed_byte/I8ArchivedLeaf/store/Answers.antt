use Rattle.std.proofs.Common.{rules}
use Rattle.std.specs.Int.{w8}
use Rattle.archive_shape_layout.proofs.NumberReading.{signed_stored}
use Rattle.archive_shape.proofs.types.signed_byte.I8ArchivedLeaf.store.Goals as goal

pub returns-clause-value : goal.returns-clause-value
returns-clause-value c = signed_stored w8 _ _ c.ranges.native (search rules)
