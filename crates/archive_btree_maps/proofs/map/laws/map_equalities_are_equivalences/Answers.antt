use Rattle.archive_btree_maps.proofs.Equality.{maps_equiv}
use Rattle.archive_btree_maps.proofs.map.laws.map_equalities_are_equivalences.Goals as goal

pub returns : goal.returns
returns c E F = maps_equiv E F
