use Rattle.std.proofs.Common.{true}
use Rattle.std.proofs.Math.Facts.{Fits-of_z}
use Rattle.std.specs.Int.{w32}
use Rattle.archive_shape_layout.proofs.NumberReading.{nonzero_illegal, spelled_number}
use Rattle.archive_shape.proofs.numbers.signed_nonzero.NonZeroI32Native.accepts.Goals as goal

pub returns-clause-illegal : goal.returns-clause-illegal
returns-clause-illegal c = nonzero_illegal w32 true _ _ (spelled_number w32 _ _ (Fits-of_z {w = w32} {z = c.read.result} (record { sfits = c.read.type_inv })) c.read.ensures.bytes)
