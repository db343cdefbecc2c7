use Rattle.archive_hash_maps.proofs.Passed.{keys_kept}
use Rattle.archive_hash_maps.proofs.walking.laws.keys_stay.Goals as goal

pub returns : goal.returns
returns g c m bytes written = keys_kept m bytes written
