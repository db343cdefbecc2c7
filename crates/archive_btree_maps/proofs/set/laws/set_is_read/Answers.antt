use Rattle.archive_btree_maps.proofs.Read.{set_is_read}
use Rattle.archive_btree_maps.proofs.set.laws.set_is_read.Goals as goal

pub returns : goal.returns
returns g c bytes = set_is_read g.K.Portable.shape g.K.Portable.knows bytes g.row.E
