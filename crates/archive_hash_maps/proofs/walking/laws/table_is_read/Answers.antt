use Rattle.archive_hash_maps.proofs.Read.{table_is_read}
use Rattle.archive_hash_maps.proofs.walking.laws.table_is_read.Goals as goal

pub returns : goal.returns
returns g c bytes = table_is_read g.T.Portable.shape g.T.Portable.knows bytes
