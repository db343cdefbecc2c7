use Rattle.std.proofs.Common.{false}
use Rattle.std.specs.Int.{w8}
use Rattle.archive_shape_layout.proofs.NumberReading.{nonzero_illegal, read_number}
use Rattle.archive_shape.proofs.types.nonzero_byte.NonZeroU8ArchivedLeaf.accepts.Goals as goal

pub returns-clause-illegal : goal.returns-clause-illegal
returns-clause-illegal c = nonzero_illegal w8 false _ _ (read_number w8 _ _ c.read.ensures.value)
