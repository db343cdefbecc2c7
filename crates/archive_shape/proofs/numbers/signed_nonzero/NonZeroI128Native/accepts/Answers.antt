use Rattle.std.proofs.Common.{true}
use Rattle.std.proofs.Math.Facts.{Fits-of_z}
use Rattle.std.specs.Int.{w128}
use Rattle.archive_shape_layout.proofs.NumberReading.{nonzero_illegal, spelled_number}
use Rattle.archive_shape.proofs.numbers.signed_nonzero.NonZeroI128Native.accepts.Goals as goal

pub returns-clause-illegal : goal.returns-clause-illegal
returns-clause-illegal c = nonzero_illegal w128 true _ _ (spelled_number w128 _ _ (Fits-of_z {w = w128} {z = c.read.result} (record { sfits = c.read.type_inv })) c.read.ensures.bytes)
