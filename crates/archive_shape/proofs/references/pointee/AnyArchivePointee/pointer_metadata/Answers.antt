use Rattle.std.proofs.Common.{rules}
use Rattle.archive_shape.proofs.references.pointee.AnyArchivePointee.pointer_metadata.Goals as goal

pub returns : goal.returns
returns g c = search rules
