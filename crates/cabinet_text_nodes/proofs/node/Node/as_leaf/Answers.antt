use Rattle.std.proofs.Common.{ap, ◌∙◌}
use Rattle.cabinet_text_nodes.specs.View.{node_tree}
use Rattle.cabinet_text_nodes.proofs.Views.{node_tree-bool}
use Rattle.cabinet_text_nodes.proofs.node.Node.as_leaf.Goals as goal

pub returns-in-Bool : goal.returns-in-Bool
returns-in-Bool c table = ap (node_tree table) c.in-Bool.is ∙ node_tree-bool table c.in-Bool.value
