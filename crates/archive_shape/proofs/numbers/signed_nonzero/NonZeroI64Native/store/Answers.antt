use Rattle.std.proofs.Math.Facts.{to_z-of_z}
use Rattle.std.specs.Int.{w64}
use Rattle.archive_shape_layout.proofs.NumberReading.{nonzero_signed_stored}
use Rattle.archive_shape.proofs.numbers.signed_nonzero.NonZeroI64Native.store.Goals as goal

pub returns-clause-value : goal.returns-clause-value
returns-clause-value c = nonzero_signed_stored w64 _ _ _ _ c.store.ensures.value c.store.ensures.bytes (to_z-of_z {w = w64} {z = c.get.result} (record { sfits = c.get.type_inv })) c.get.ensures.value (record { sfits = c.get.type_inv }) c.get.ensures.nonzero
