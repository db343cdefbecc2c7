use Rattle.std.proofs.Common.{false}
use Rattle.std.specs.Int.{w64}
use Rattle.archive_shape_layout.proofs.NumberReading.{nonzero_illegal, read_number}
use Rattle.archive_shape.proofs.numbers.unsigned_nonzero.NonZeroU64Native.accepts.Goals as goal

pub returns-clause-illegal : goal.returns-clause-illegal
returns-clause-illegal c = nonzero_illegal w64 false _ _ (read_number w64 _ _ c.read.ensures.value)
