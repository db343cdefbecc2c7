use Rattle.std.proofs.Common.{rules}
use Rattle.archive_btree_maps.proofs.walking.range.is_before.Goals as goal

pub returns-in-Excluded : goal.returns-in-Excluded
returns-in-Excluded g c = search rules
