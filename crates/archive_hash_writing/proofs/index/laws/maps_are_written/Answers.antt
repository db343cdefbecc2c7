use Rattle.archive_hash_writing.proofs.IndexNumbers.{maps_are_written_law}
use Rattle.archive_hash_writing.proofs.index.laws.maps_are_written.Goals as goal

pub returns : goal.returns
returns c = maps_are_written_law
