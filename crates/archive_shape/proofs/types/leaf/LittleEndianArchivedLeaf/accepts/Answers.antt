use Rattle.std.proofs.Common.{rules}
use Rattle.archive_shape.proofs.types.leaf.LittleEndianArchivedLeaf.accepts.Goals as goal

pub returns-clause-legal : goal.returns-clause-legal
returns-clause-legal g c = search rules

pub returns-clause-illegal : goal.returns-clause-illegal
returns-clause-illegal g c = search rules
