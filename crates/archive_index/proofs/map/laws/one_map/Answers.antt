use Rattle.archive_index.proofs.Read.{one_map}
use Rattle.archive_index.proofs.map.laws.one_map.Goals as goal

pub returns : goal.returns
returns c = one_map
