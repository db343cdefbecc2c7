use Rattle.std.proofs.Common.{rules}
use Rattle.archive_shape.proofs.references.own_seal.OwnSeal.pos.Goals as goal

pub returns : goal.returns
returns g c = search rules
