use Rattle.archive_btree_maps.proofs.ReadTree.{map_is_read}
use Rattle.archive_btree_maps.proofs.walking.laws.map_is_read.Goals as goal

pub returns : goal.returns
returns g c bytes = map_is_read g.K.Portable.shape g.V.Portable.shape g.K.Portable.knows g.V.Portable.knows bytes g.row.E
