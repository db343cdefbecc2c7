use Rattle.std.proofs.Common.{rules}
use Rattle.archive_shape.proofs.references.refs.Ref.new.Goals as goal

pub returns-clause-pos : goal.returns-clause-pos
returns-clause-pos g c = search rules
