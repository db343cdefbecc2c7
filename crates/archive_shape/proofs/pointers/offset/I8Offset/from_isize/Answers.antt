use Rattle.std.proofs.Common.{rules}
use Rattle.archive_shape.proofs.pointers.offset.I8Offset.from_isize.Goals as goal

pub returns-in-Err-clause-fits : goal.returns-in-Err-clause-fits
returns-in-Err-clause-fits c = search rules
