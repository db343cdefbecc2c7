use Rattle.std.proofs.Common.{rules}
use Rattle.std.proofs.Math.Facts.{to_z-of_z}
use Rattle.std.specs.Int.{w128}
use Rattle.archive_shape_layout.proofs.NumberReading.{nonzero_signed_stored}
use Rattle.archive_shape.proofs.numbers.signed_nonzero.NonZeroI128Native.store.Goals as goal

pub returns-clause-bytes : goal.returns-clause-bytes
returns-clause-bytes c = search rules

pub returns-clause-value : goal.returns-clause-value
returns-clause-value c = nonzero_signed_stored w128 _ _ _ _ c.store.ensures.value c.store.ensures.bytes (to_z-of_z {w = w128} {z = c.get.result} (record { sfits = c.get.type_inv })) c.get.ensures.value (record { sfits = c.get.type_inv }) c.get.ensures.nonzero
