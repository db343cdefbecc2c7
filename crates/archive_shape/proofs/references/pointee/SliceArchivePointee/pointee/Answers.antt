use Rattle.std.proofs.Common.{rules}
use Rattle.archive_shape.proofs.references.pointee.SliceArchivePointee.pointee.Goals as goal

pub returns : goal.returns
returns g c = search rules
