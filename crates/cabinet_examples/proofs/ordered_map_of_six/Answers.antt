use Rattle.cabinet_examples.proofs.Documents.{ordered_map_of_six}
use Rattle.cabinet_examples.proofs.ordered_map_of_six.Goals as goal

pub returns : goal.returns
returns c = ordered_map_of_six
