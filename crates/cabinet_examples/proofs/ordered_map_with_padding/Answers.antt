use Rattle.cabinet_examples.proofs.Doubtful.{ordered_map_with_padding}
use Rattle.cabinet_examples.proofs.ordered_map_with_padding.Goals as goal

pub returns : goal.returns
returns c = ordered_map_with_padding
