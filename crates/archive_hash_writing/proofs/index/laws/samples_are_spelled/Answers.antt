use Rattle.archive_hash_writing.proofs.IndexSamples.{samples_are_spelled_law}
use Rattle.archive_hash_writing.proofs.index.laws.samples_are_spelled.Goals as goal

pub returns : goal.returns
returns c = samples_are_spelled_law
