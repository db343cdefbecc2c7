use Rattle.std.proofs.Common.{arith}
use Rattle.archive_shape.proofs.Pointees.{word_after}
use Rattle.archive_shape.proofs.references.pointee.SliceArchivePointee.pointer_metadata.Goals as goal

pub returns : goal.returns
returns g c = word_after _ c.to_native.result (omega arith) c.to_native.ensures.bytes
