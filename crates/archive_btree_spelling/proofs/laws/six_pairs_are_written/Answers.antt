use Rattle.archive_btree_spelling.proofs.Samples.{six_pairs_are_written_law}
use Rattle.archive_btree_spelling.proofs.laws.six_pairs_are_written.Goals as goal

pub returns : goal.returns
returns c = six_pairs_are_written_law
