use Rattle.std.specs.Int.{w8}
use Rattle.archive_shape_layout.proofs.NumberReading.{nonzero_unsigned_stored}
use Rattle.archive_shape.proofs.types.nonzero_byte.NonZeroU8ArchivedLeaf.store.Goals as goal

pub returns-clause-value : goal.returns-clause-value
returns-clause-value c = nonzero_unsigned_stored w8 _ _ _ c.store.ensures.value c.get.ensures.value c.get.ensures.nonzero
