use Rattle.cabinet_examples.proofs.Documents.{list_in_a_map_in_a_map}
use Rattle.cabinet_examples.proofs.list_in_a_map_in_a_map.Goals as goal

pub returns : goal.returns
returns c = list_in_a_map_in_a_map
