use Rattle.archive_hash_writing.proofs.Many.{many_are_held_law}
use Rattle.archive_hash_writing.proofs.spelling.many_are_held.Goals as goal

pub returns : goal.returns
returns c = many_are_held_law
