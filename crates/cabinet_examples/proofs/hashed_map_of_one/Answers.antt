use Rattle.cabinet_examples.proofs.Documents.{hashed_map_of_one}
use Rattle.cabinet_examples.proofs.hashed_map_of_one.Goals as goal

pub returns : goal.returns
returns c = hashed_map_of_one
