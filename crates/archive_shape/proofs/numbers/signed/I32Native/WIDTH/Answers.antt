use Rattle.std.proofs.Common.{rules}
use Rattle.archive_shape.proofs.numbers.signed.I32Native.WIDTH.Goals as goal

pub returns : goal.returns
returns c = search rules
