use Rattle.std.proofs.Common.{refl}
use Rattle.cabinet_archives.proofs.mapping.tally.Tally.count_node.Goals as goal

pub returns : goal.returns
returns c = rw c.raise.ensures refl
