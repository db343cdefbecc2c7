use Rattle.std.proofs.Common.{refl}
use Rattle.archive_btree_maps.proofs.walking.range.RangeIterator.size_hint.Goals as goal

pub returns-clause-upper : goal.returns-clause-upper
returns-clause-upper g c = tt

pub returns-clause-exact : goal.returns-clause-exact
returns-clause-exact g c = refl
