use Rattle.archive_btree_spelling.proofs.Samples.{maps_are_written_law}
use Rattle.archive_btree_spelling.proofs.laws.maps_are_written.Goals as goal

pub returns : goal.returns
returns c = maps_are_written_law
