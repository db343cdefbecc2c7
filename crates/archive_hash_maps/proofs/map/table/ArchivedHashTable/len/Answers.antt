use Rattle.std.proofs.Common.{◌∙◌}
use Rattle.archive_hash_maps.proofs.Roots.{table_count}
use Rattle.archive_hash_maps.proofs.map.table.ArchivedHashTable.len.Goals as goal

pub returns : goal.returns
returns g c b is = c.number_at.ensures.value ∙ table_count is
