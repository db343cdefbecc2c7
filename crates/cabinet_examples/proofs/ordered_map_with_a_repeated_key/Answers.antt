use Rattle.cabinet_examples.proofs.Doubtful.{ordered_map_with_a_repeated_key}
use Rattle.cabinet_examples.proofs.ordered_map_with_a_repeated_key.Goals as goal

pub returns : goal.returns
returns c = ordered_map_with_a_repeated_key
