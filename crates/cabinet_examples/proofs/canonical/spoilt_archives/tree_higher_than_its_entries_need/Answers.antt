use Rattle.cabinet_examples.proofs.Spoilt.{leaf_of_none}
use Rattle.cabinet_examples.proofs.canonical.spoilt_archives.tree_higher_than_its_entries_need.Goals as goal

pub returns : goal.returns
returns c = leaf_of_none
