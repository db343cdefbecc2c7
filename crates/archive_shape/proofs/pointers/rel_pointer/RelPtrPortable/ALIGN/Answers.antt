use Rattle.std.proofs.Common.{rules}
use Rattle.archive_shape.proofs.pointers.rel_pointer.RelPtrPortable.ALIGN.Goals as goal

pub returns-then-ALIGN : goal.returns-then-ALIGN
returns-then-ALIGN g c = search rules

pub returns-else-ALIGN : goal.returns-else-ALIGN
returns-else-ALIGN g c = search rules
