use Rattle.archive_hash_writing.proofs.Samples.{samples_are_spelled_law}
use Rattle.archive_hash_writing.proofs.spelling.samples_are_spelled.Goals as goal

pub returns : goal.returns
returns c = samples_are_spelled_law
