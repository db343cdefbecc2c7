use Rattle.cabinet_examples.proofs.Documents.{node_sizes}
use Rattle.cabinet_examples.proofs.node_sizes.Goals as goal

pub returns : goal.returns
returns c = node_sizes
