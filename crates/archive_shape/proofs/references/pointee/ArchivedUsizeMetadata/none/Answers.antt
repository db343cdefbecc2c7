use Rattle.std.proofs.Common.{rules}
use Rattle.archive_shape.proofs.references.pointee.ArchivedUsizeMetadata.none.Goals as goal

pub returns : goal.returns
returns c = search rules
