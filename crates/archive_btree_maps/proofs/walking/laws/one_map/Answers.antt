use Rattle.archive_btree_maps.proofs.One.{one_map}
use Rattle.archive_btree_maps.proofs.walking.laws.one_map.Goals as goal

pub returns : goal.returns
returns c bytes most k v = one_map bytes most k v
