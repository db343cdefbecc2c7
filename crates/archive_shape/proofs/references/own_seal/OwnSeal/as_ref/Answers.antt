use Rattle.std.proofs.Common.{rules}
use Rattle.archive_shape.proofs.references.own_seal.OwnSeal.as_ref.Goals as goal

pub returns-clause-pos : goal.returns-clause-pos
returns-clause-pos g c = search rules
