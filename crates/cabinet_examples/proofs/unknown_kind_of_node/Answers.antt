use Rattle.cabinet_examples.proofs.Refused.{unknown_kind_of_node}
use Rattle.cabinet_examples.proofs.unknown_kind_of_node.Goals as goal

pub returns : goal.returns
returns c = unknown_kind_of_node
