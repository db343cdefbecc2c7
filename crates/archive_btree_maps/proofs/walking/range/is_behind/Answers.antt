use Rattle.std.proofs.Common.{rules}
use Rattle.archive_btree_maps.proofs.walking.range.is_behind.Goals as goal

pub returns-in-Included : goal.returns-in-Included
returns-in-Included g c = search rules

pub returns-in-Unbounded : goal.returns-in-Unbounded
returns-in-Unbounded g c = search rules
