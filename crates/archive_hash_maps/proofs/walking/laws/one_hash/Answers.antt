use Rattle.archive_hash_maps.proofs.Found.{fx_hash}
use Rattle.archive_hash_maps.proofs.walking.laws.one_hash.Goals as goal

pub returns : goal.returns
returns c = fx_hash
