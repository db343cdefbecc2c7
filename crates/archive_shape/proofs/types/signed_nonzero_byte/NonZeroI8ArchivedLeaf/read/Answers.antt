use Rattle.std.proofs.Common.{true, ap, sym, ◌∙◌}
use Rattle.std.proofs.Math.Facts.{to_z-of_z}
use Rattle.std.specs.Int.{w8}
use Rattle.archive_shape_layout.specs.Value.Value.{integer}
use Rattle.archive_shape_layout.proofs.NumberReading.{nonzero_reads}
use Rattle.archive_shape.proofs.types.signed_nonzero_byte.NonZeroI8ArchivedLeaf.read.Goals as goal

pub returns-clause-value : goal.returns-clause-value
returns-clause-value c = nonzero_reads w8 true _ _ _ c.read.ensures.value (ap integer (sym ((rw c.unwrap.ensures at c.new.ensures) ∙ to_z-of_z {w = w8} {z = c.read.result} (record { sfits = c.read.type_inv })))) c.requires.legal
