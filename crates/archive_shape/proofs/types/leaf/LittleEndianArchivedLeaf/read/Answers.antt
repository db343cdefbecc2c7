use Rattle.std.proofs.Common.{rules}
use Rattle.archive_shape.proofs.types.leaf.LittleEndianArchivedLeaf.read.Goals as goal

pub returns-clause-bytes : goal.returns-clause-bytes
returns-clause-bytes g c = search rules

pub returns-clause-value : goal.returns-clause-value
returns-clause-value g c = search rules
