use Rattle.std.proofs.Common.{refl}
use Rattle.archive_hash_probing.specs.Marks.{lanes_marked}
use Rattle.archive_hash_probing.proofs.scanning.bitmask.BitmaskDefault.default.Goals as goal

pub returns : goal.returns
unfolding lanes_marked
returns c = refl
