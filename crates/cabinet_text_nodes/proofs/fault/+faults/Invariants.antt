use Rattle.std.proofs.Common.{drop}
use Rattle.cabinet_text_nodes.proofs.Faults.{values}
use Rattle.cabinet_text_nodes.proofs.NodeFaults.{IsFaultBefore}
use Rattle.cabinet_text_nodes.proofs.fault.+faults.Given as goal

abbrev pub invariant-fault_among-loop-node : goal.invariant-fault_among-loop-node
invariant-fault_among-loop-node l = IsFaultBefore l.depths l.room l.nodes (drop l.node-index l.nodes) l.fault

abbrev pub invariant-fault_among_pairs-loop-node : goal.invariant-fault_among_pairs-loop-node
invariant-fault_among_pairs-loop-node l = IsFaultBefore l.depths l.room (values l.pairs) (values (drop l.node-index l.pairs)) l.fault

abbrev pub invariant-fault_among_values-loop-node : goal.invariant-fault_among_values-loop-node
invariant-fault_among_values-loop-node l =
    (goal.iterator-fault_among_values-loop-node).can_next l.node-iterator
    × (goal.iterator-fault_among_values-loop-node).is_finite l.node-iterator
    × IsFaultBefore l.depths l.room (values l.fn.values.entries) (values l.node-iterator) l.fault
