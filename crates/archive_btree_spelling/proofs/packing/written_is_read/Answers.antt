use Rattle.archive_btree_spelling.proofs.Held.{written_is_read_law}
use Rattle.archive_btree_spelling.proofs.packing.written_is_read.Goals as goal

pub returns : goal.returns
returns c = written_is_read_law
