use Rattle.cabinet_examples.proofs.Doubtful.{hashed_map_with_a_repeated_key}
use Rattle.cabinet_examples.proofs.hashed_map_with_a_repeated_key.Goals as goal

pub returns : goal.returns
returns c = hashed_map_with_a_repeated_key
