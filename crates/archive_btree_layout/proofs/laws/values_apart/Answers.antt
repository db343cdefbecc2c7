use Rattle.archive_btree_layout.proofs.Mapped.{values_apart}
use Rattle.archive_btree_layout.proofs.laws.values_apart.Goals as goal

pub returns : goal.returns
returns c = values_apart
