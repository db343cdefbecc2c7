use Rattle.std.proofs.Common.{refl}
use Rattle.cabinet_archives.proofs.mapping.tally.Tally.new.Goals as goal

pub returns : goal.returns
returns c = refl
