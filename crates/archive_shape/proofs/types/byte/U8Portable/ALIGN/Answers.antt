use Rattle.std.proofs.Common.{rules}
use Rattle.archive_shape.proofs.types.byte.U8Portable.ALIGN.Goals as goal

pub returns : goal.returns
returns c = search rules
