use Rattle.std.proofs.Common.{ap, ◌∙◌}
use Rattle.std.specs.Int.{w128, from_le_bytes, cast_signed}
use Rattle.std.proofs.Math.Facts.{to_z-of_z}
use Rattle.archive_shape_layout.proofs.NumberReading.{signed_reads, signed_spells}
use Rattle.archive_shape.proofs.numbers.signed.I128Native.read.Goals as goal

pub returns-clause-bytes : goal.returns-clause-bytes
returns-clause-bytes c = signed_spells w128 _ _ (to_z-of_z {w = w128} {z = c.from_le_bytes.result} (record { sfits = c.from_le_bytes.type_inv }) ∙ c.from_le_bytes.ensures ∙ ap (λ bs. cast_signed w128 (from_le_bytes w128 bs)) c.copy_from_slice.ensures.after) c.requires.width (λ i. (c.type_inv.bytes i).fits)

pub returns-clause-value : goal.returns-clause-value
returns-clause-value c = signed_reads w128 _ _ (to_z-of_z {w = w128} {z = c.from_le_bytes.result} (record { sfits = c.from_le_bytes.type_inv }) ∙ c.from_le_bytes.ensures ∙ ap (λ bs. cast_signed w128 (from_le_bytes w128 bs)) c.copy_from_slice.ensures.after)
