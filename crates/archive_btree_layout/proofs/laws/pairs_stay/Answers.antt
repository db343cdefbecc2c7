use Rattle.archive_btree_layout.proofs.Mapped.{pairs_stay}
use Rattle.archive_btree_layout.proofs.laws.pairs_stay.Goals as goal

pub returns : goal.returns
returns c = pairs_stay
