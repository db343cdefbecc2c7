use Rattle.std.proofs.Common.{ap, ◌∙◌}
use Rattle.std.specs.Int.{w128, from_le_bytes}
use Rattle.archive_shape_layout.proofs.NumberReading.{unsigned_reads, unsigned_spells}
use Rattle.archive_shape.proofs.numbers.unsigned.U128Native.read.Goals as goal

pub returns-clause-bytes : goal.returns-clause-bytes
returns-clause-bytes c = unsigned_spells w128 _ _ (c.from_le_bytes.ensures ∙ ap (λ bs. from_le_bytes w128 bs) c.copy_from_slice.ensures.after) c.requires.width (λ i. (c.type_inv.bytes i).fits)

pub returns-clause-value : goal.returns-clause-value
returns-clause-value c = unsigned_reads w128 _ _ (c.from_le_bytes.ensures ∙ ap (λ bs. from_le_bytes w128 bs) c.copy_from_slice.ensures.after)
