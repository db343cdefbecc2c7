use Rattle.archive_index.proofs.Read.{map_is_read}
use Rattle.archive_index.proofs.map.laws.map_is_read.Goals as goal

pub returns : goal.returns
returns g c bytes = map_is_read g.K.Portable.shape g.V.Portable.shape g.K.Portable.knows g.V.Portable.knows bytes
