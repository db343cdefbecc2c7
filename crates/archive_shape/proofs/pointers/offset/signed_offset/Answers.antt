use Rattle.std.proofs.Common.{rules}
use Rattle.archive_shape.proofs.pointers.offset.signed_offset.Goals as goal

pub returns-in-None : goal.returns-in-None
returns-in-None c = search rules
