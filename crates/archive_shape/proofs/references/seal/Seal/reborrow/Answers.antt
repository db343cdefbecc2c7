use Rattle.std.proofs.Common.{rules}
use Rattle.archive_shape.proofs.references.seal.Seal.reborrow.Goals as goal

pub returns-clause-pos : goal.returns-clause-pos
returns-clause-pos g c = search rules
