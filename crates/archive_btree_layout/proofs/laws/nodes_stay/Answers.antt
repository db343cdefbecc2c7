use Rattle.archive_btree_layout.proofs.Mapped.{nodes_stay}
use Rattle.archive_btree_layout.proofs.laws.nodes_stay.Goals as goal

pub returns : goal.returns
returns c = nodes_stay
