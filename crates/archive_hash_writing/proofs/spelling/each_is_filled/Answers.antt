use Rattle.archive_hash_writing.proofs.Numbers.{each_is_filled_law}
use Rattle.archive_hash_writing.proofs.spelling.each_is_filled.Goals as goal

pub returns : goal.returns
returns c = each_is_filled_law
