use Rattle.archive_hash_maps.specs.Tables.{full_places}
use Rattle.archive_hash_maps.proofs.Roots.{table_empty}
use Rattle.archive_hash_maps.proofs.map.table.ArchivedHashTable.is_empty.Goals as goal

pub returns : goal.returns
returns g c b is = table_empty (full_places b) c.len.result (c.len.ensures b is)
