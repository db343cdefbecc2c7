use Rattle.archive_hash_writing.proofs.IndexKept.{texts_are_kept_law}
use Rattle.archive_hash_writing.proofs.index.laws.texts_are_kept.Goals as goal

pub returns : goal.returns
returns c = texts_are_kept_law
