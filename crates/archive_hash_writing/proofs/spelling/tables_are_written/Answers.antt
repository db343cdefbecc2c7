use Rattle.archive_hash_writing.proofs.Numbers.{tables_are_written_law}
use Rattle.archive_hash_writing.proofs.spelling.tables_are_written.Goals as goal

pub returns : goal.returns
returns c = tables_are_written_law
