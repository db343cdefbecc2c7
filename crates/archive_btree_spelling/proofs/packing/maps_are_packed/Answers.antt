use Rattle.archive_btree_spelling.proofs.Written.{maps_are_packed_law}
use Rattle.archive_btree_spelling.proofs.packing.maps_are_packed.Goals as goal

pub returns : goal.returns
returns c = maps_are_packed_law
