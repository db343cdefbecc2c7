use Rattle.archive_btree_spelling.proofs.Packed.{written_is_least_law}
use Rattle.archive_btree_spelling.proofs.packing.written_is_least.Goals as goal

pub returns : goal.returns
returns c = written_is_least_law
