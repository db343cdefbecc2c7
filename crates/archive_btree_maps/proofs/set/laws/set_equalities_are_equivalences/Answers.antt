use Rattle.archive_btree_maps.proofs.Keyed.{sets_equiv}
use Rattle.archive_btree_maps.proofs.set.laws.set_equalities_are_equivalences.Goals as goal

pub returns : goal.returns
returns c E = sets_equiv E
