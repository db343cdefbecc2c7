use Rattle.std.proofs.Common.{drop}
use Rattle.cabinet_text_nodes.proofs.Faults.{values}
use Rattle.cabinet_text_nodes.proofs.Depths.{IsDepthBefore}
use Rattle.cabinet_text_nodes.proofs.depth.+depths.Given as goal

abbrev pub invariant-most_among-loop-node : goal.invariant-most_among-loop-node
invariant-most_among-loop-node l = IsDepthBefore l.depths l.nodes (drop l.node-index l.nodes) l.most

abbrev pub invariant-most_among_pairs-loop-node : goal.invariant-most_among_pairs-loop-node
invariant-most_among_pairs-loop-node l = IsDepthBefore l.depths (values l.pairs) (values (drop l.node-index l.pairs)) l.most

abbrev pub invariant-most_among_values-loop-node : goal.invariant-most_among_values-loop-node
invariant-most_among_values-loop-node l =
    (goal.iterator-most_among_values-loop-node).can_next l.node-iterator
    × (goal.iterator-most_among_values-loop-node).is_finite l.node-iterator
    × IsDepthBefore l.depths (values l.fn.values.entries) (values l.node-iterator) l.most
