use Rattle.archive_btree_maps.proofs.Keyed.{sets_alike}
use Rattle.archive_btree_maps.proofs.set.laws.equal_sets_are_hashed_alike.Goals as goal

pub returns : goal.returns
returns c E G = sets_alike E G
