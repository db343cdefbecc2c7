use Rattle.std.proofs.Common.{rules}
use Rattle.archive_shape.proofs.types.number.LittleEndian.from_native.Goals as goal

pub returns : goal.returns
returns g c = search rules
