use Rattle.std.proofs.Common.{false, ap, sym}
use Rattle.std.specs.Int.{w8}
use Rattle.archive_shape_layout.specs.Value.Value.{natural}
use Rattle.archive_shape_layout.proofs.NumberReading.{nonzero_reads}
use Rattle.archive_shape.proofs.types.nonzero_byte.NonZeroU8ArchivedLeaf.read.Goals as goal

pub returns-clause-value : goal.returns-clause-value
returns-clause-value c = nonzero_reads w8 false _ _ _ c.read.ensures.value (ap natural (sym (rw c.unwrap.ensures at c.new.ensures))) c.requires.legal
