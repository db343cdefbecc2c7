use Rattle.std.proofs.Common.{rules}
use Rattle.archive_shape.proofs.types.portable.LittleEndianPortable.shape.Goals as goal

pub returns : goal.returns
returns g c = search rules
