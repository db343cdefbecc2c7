use Rattle.std.proofs.Common.{true, ap, sym, ◌∙◌}
use Rattle.std.proofs.Math.Facts.{to_z-of_z}
use Rattle.std.specs.Int.{w128}
use Rattle.archive_shape_layout.specs.Value.Value.{integer}
use Rattle.archive_shape_layout.proofs.NumberReading.{nonzero_reads}
use Rattle.archive_shape.proofs.numbers.signed_nonzero.NonZeroI128Native.read.Goals as goal

pub returns-clause-value : goal.returns-clause-value
returns-clause-value c = nonzero_reads w128 true _ _ _ c.read.ensures.value (ap integer (sym ((rw c.unwrap.ensures at c.new.ensures) ∙ to_z-of_z {w = w128} {z = c.read.result} (record { sfits = c.read.type_inv })))) c.requires.legal
