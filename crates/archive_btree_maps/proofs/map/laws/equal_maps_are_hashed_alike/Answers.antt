use Rattle.archive_btree_maps.proofs.Equality.{maps_alike}
use Rattle.archive_btree_maps.proofs.map.laws.equal_maps_are_hashed_alike.Goals as goal

pub returns : goal.returns
returns c E F G H = maps_alike E F G H
