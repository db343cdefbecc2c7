use Rattle.cabinet_examples.proofs.Documents.{kept_map_of_two}
use Rattle.cabinet_examples.proofs.kept_map_of_two.Goals as goal

pub returns : goal.returns
returns c = kept_map_of_two
