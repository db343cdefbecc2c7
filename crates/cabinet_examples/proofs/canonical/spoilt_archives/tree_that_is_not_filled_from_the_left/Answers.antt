use Rattle.cabinet_examples.proofs.Spoilt.{leaf_on_the_right}
use Rattle.cabinet_examples.proofs.canonical.spoilt_archives.tree_that_is_not_filled_from_the_left.Goals as goal

pub returns : goal.returns
returns c = leaf_on_the_right
