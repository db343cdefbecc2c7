use Rattle.archive_hash_maps.proofs.Stays.{table_stays}
use Rattle.archive_hash_maps.proofs.walking.laws.table_stays.Goals as goal

pub returns : goal.returns
returns g c m bytes written = table_stays g.T.Portable.shape g.T.Portable.knows m.bytes bytes m.pos m.buckets m.has m.places written
