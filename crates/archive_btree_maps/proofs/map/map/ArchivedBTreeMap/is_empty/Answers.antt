use Rattle.archive_btree_maps.proofs.Roots.{map_empty}
use Rattle.archive_btree_maps.proofs.map.map.ArchivedBTreeMap.is_empty.Goals as goal

pub returns : goal.returns
returns g c t h = map_empty t c.len.result (c.len.ensures t h)
