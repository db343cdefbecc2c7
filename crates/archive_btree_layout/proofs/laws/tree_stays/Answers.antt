use Rattle.archive_btree_layout.proofs.Mapped.{tree_stays}
use Rattle.archive_btree_layout.proofs.laws.tree_stays.Goals as goal

pub returns : goal.returns
returns c = tree_stays
