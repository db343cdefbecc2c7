use Rattle.std.proofs.Common.{rules}
use Rattle.archive_shape.proofs.pointers.offset.ArchivedI16Offset.to_isize.Goals as goal

pub returns : goal.returns
returns c = search rules
