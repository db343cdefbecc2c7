use Rattle.std.proofs.Common.{rules}
use Rattle.archive_shape.proofs.numbers.unsigned.U16Native.shape.Goals as goal

pub returns : goal.returns
returns c = search rules
