use Rattle.cabinet_examples.proofs.Documents.{ordered_map_with_an_empty_leaf}
use Rattle.cabinet_examples.proofs.ordered_map_with_an_empty_leaf.Goals as goal

pub returns : goal.returns
returns c = ordered_map_with_an_empty_leaf
