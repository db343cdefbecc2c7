use Rattle.std.proofs.Common.{rules}
use Rattle.archive_shape.proofs.references.refs.Ref.to_native.Goals as goal

pub read-requires-clause-legal : goal.read-requires-clause-legal
read-requires-clause-legal g c = search rules
