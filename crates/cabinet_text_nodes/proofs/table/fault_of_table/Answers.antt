use Rattle.std.proofs.Common.{◌+◌, drop, subst}
use Rattle.cabinet_text_nodes.specs.Depths.{NodeDepth}
use Rattle.cabinet_text_nodes.specs.Faults.{NodeFault}
use Rattle.cabinet_text_nodes.proofs.NodeFaults.{nodes_from, no_nodes}
use Rattle.cabinet_text_nodes.proofs.TableFaults.{more_told, all_told}
use Rattle.cabinet_text_nodes.proofs.table.fault_of_table.Goals as goal

pub loop-node-preserved : goal.loop-node-preserved
loop-node-preserved c =
    let ns = c.args.wholes.now in
    let i = c.loop-node.node-index in
    let n = c.node-item.result in
    more_told ns n (drop (i + 1) ns) (drop i ns) c.loop-node.depths.items c.push.new.self.items c.depth_of-depth.result c.loop-node.fault c.fault_of.result c.worse-fault.result (nodes_from ns i n c.loop-node-test.true c.node-item.is) c.loop-node.invariant
    (subst (λ d. NodeFault d 63 n c.fault_of.result) c.as_slice-in-loop-node.ensures.value c.fault_of.ensures)
    (subst (λ d. NodeDepth d n c.depth_of-depth.result) c.as_slice.ensures.value c.depth_of-depth.ensures)
    c.worse-fault.ensures c.in_ok-push.ensures.items

pub returns-clause-fault : goal.returns-clause-fault
returns-clause-fault c =
    let ns = c.args.wholes.now in
    all_told ns (drop c.loop-node.node-index ns) c.args.root.now c.loop-node.depths.items c.loop-node.fault c.fault_of-2.result c.worse.result (no_nodes ns c.loop-node.node-index c.loop-node-test.false) c.loop-node.invariant
    (subst (λ d. NodeFault d 64 c.args.root.now c.fault_of-2.result) c.as_slice-2.ensures.value c.fault_of-2.ensures)
    c.worse.ensures
