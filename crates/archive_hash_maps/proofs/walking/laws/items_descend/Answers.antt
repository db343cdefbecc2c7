use Rattle.archive_hash_maps.proofs.Apart.{items_descend}
use Rattle.archive_hash_maps.proofs.walking.laws.items_descend.Goals as goal

pub returns : goal.returns
returns g c = items_descend g.T.Portable.shape
