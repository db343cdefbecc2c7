use Rattle.std.proofs.Common.{false}
use Rattle.std.specs.Int.{w16}
use Rattle.archive_shape_layout.proofs.NumberReading.{nonzero_illegal, read_number}
use Rattle.archive_shape.proofs.numbers.unsigned_nonzero.NonZeroU16Native.accepts.Goals as goal

pub returns-clause-illegal : goal.returns-clause-illegal
returns-clause-illegal c = nonzero_illegal w16 false _ _ (read_number w16 _ _ c.read.ensures.value)
