use Rattle.std.proofs.Common.{◌+◌, ◌-◌, ◌*◌, drop}
use Rattle.cabinet_text_grammar.specs.Tree.{depth, most_depth}
use Rattle.cabinet_text_nodes.specs.View.{node_tree, node_trees, table_of}
use Rattle.cabinet_text_nodes.specs.declared.node.Node.TheVariants as node
use Rattle.cabinet_text_nodes.proofs.Faults.{values}
use Rattle.cabinet_text_nodes.proofs.Walks.{IsWalkBefore}
use Rattle.cabinet_text_nodes.proofs.order.+order.Given as goal

abbrev pub decreases-walk_node : goal.decreases-walk_node
decreases-walk_node l = 2 * depth (node_tree (table_of l.wholes.now) l.node.now)

abbrev pub decreases-walk_option : goal.decreases-walk_option
decreases-walk_option l = 2 * depth (node_tree (table_of l.wholes.now) (node.Maybe l.content.now)) - 1

abbrev pub decreases-walk_whole : goal.decreases-walk_whole
decreases-walk_whole l = 2 * depth (node_tree (table_of l.wholes.now) (node.Whole l.number)) - 1

abbrev pub decreases-walk_nodes : goal.decreases-walk_nodes
decreases-walk_nodes l = 2 * most_depth (node_trees (table_of l.wholes.now) l.nodes.now) + 1

abbrev pub decreases-walk_pairs : goal.decreases-walk_pairs
decreases-walk_pairs l = 2 * most_depth (node_trees (table_of l.wholes.now) (values l.pairs.now)) + 1

abbrev pub decreases-walk_values : goal.decreases-walk_values
decreases-walk_values l = 2 * most_depth (node_trees (table_of l.wholes.now) (values l.values.now.entries)) + 1

abbrev pub invariant-walk_nodes-loop-node : goal.invariant-walk_nodes-loop-node
invariant-walk_nodes-loop-node l = IsWalkBefore l.wholes l.nodes (drop l.node-index l.nodes) l.next l.complete

abbrev pub invariant-walk_pairs-loop-node : goal.invariant-walk_pairs-loop-node
invariant-walk_pairs-loop-node l = IsWalkBefore l.wholes (values l.pairs) (values (drop l.node-index l.pairs)) l.next l.complete

abbrev pub invariant-walk_values-loop-node : goal.invariant-walk_values-loop-node
invariant-walk_values-loop-node l =
    (goal.iterator-walk_values-loop-node).can_next l.node-iterator
    × (goal.iterator-walk_values-loop-node).is_finite l.node-iterator
    × IsWalkBefore l.wholes (values l.fn.values.entries) (values l.node-iterator) l.next l.complete
