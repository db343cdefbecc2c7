use Rattle.cabinet_examples.proofs.Boxes.{leaf_shorter_than_its_map}
use Rattle.cabinet_examples.proofs.leaf_shorter_than_its_map.Goals as goal

pub returns : goal.returns
returns c = leaf_shorter_than_its_map
