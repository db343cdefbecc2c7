use Rattle.archive_hash_maps.proofs.Read.{one_table}
use Rattle.archive_hash_maps.proofs.walking.laws.one_table.Goals as goal

pub returns : goal.returns
returns c = one_table
