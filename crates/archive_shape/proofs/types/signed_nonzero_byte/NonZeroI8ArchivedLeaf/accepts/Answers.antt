use Rattle.std.proofs.Common.{true}
use Rattle.std.proofs.Math.Facts.{Fits-of_z}
use Rattle.std.specs.Int.{w8}
use Rattle.archive_shape_layout.proofs.NumberReading.{nonzero_illegal, spelled_number}
use Rattle.archive_shape.proofs.types.signed_nonzero_byte.NonZeroI8ArchivedLeaf.accepts.Goals as goal

pub returns-clause-illegal : goal.returns-clause-illegal
returns-clause-illegal c = nonzero_illegal w8 true _ _ (spelled_number w8 _ _ (Fits-of_z {w = w8} {z = c.read.result} (record { sfits = c.read.type_inv })) c.read.ensures.bytes)
