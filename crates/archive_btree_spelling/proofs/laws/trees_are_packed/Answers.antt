use Rattle.archive_btree_spelling.proofs.Shown.{trees_are_packed_law}
use Rattle.archive_btree_spelling.proofs.laws.trees_are_packed.Goals as goal

pub returns : goal.returns
returns c = trees_are_packed_law
