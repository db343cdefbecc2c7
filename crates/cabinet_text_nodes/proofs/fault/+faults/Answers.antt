use Rattle.std.proofs.Common.{◌+◌, ◌<◌, ◌^◌, length, drop, arith, ap, refl, sym, subst}
use Rattle.std.proofs.lemmas.Bool.{true≢false}
use Rattle.cabinet_text_nodes.specs.Faults.{NodeFault, NodeFaults}
use Rattle.cabinet_text_nodes.specs.declared.node.Node.TheVariants as node
use Rattle.cabinet_text_nodes.proofs.Faults.{values}
use Rattle.cabinet_text_nodes.proofs.NodeFaults.{fault_before_more, fault_before_none, none_fault, some_fault, list_node_fault, ordered_fault, hashed_fault, kept_once_fault, kept_twice_fault, text_fault, shared_fault, nodes_from, values_from, no_nodes, no_values}
use Rattle.cabinet_text_nodes.proofs.fault.+faults.Goals as goal

pub fault_among-loop-node-preserved : goal.fault_among-loop-node-preserved
fault_among-loop-node-preserved t c =
    let ns = c.args.nodes.now in
    let i = c.loop-node.node-index in
    fault_before_more c.args.depths.now c.args.room ns c.node-item.result (drop (i + 1) ns) (drop i ns) c.loop-node.fault c.fault_of.result c.worse-fault.result (nodes_from ns i c.node-item.result c.loop-node-test.true c.node-item.is) c.loop-node.invariant c.fault_of.ensures c.worse-fault.ensures

pub fault_among-returns : goal.fault_among-returns
fault_among-returns t c =
    fault_before_none c.args.depths.now c.args.room c.args.nodes.now (drop c.loop-node.node-index c.args.nodes.now) c.loop-node.fault (no_nodes c.args.nodes.now c.loop-node.node-index c.loop-node-test.false) c.loop-node.invariant

pub fault_among_pairs-loop-node-preserved : goal.fault_among_pairs-loop-node-preserved
fault_among_pairs-loop-node-preserved t c =
    let ps = c.args.pairs.now in
    let i = c.loop-node.node-index in
    fault_before_more c.args.depths.now c.args.room (values ps) c.loop-node-item.result.1 (values (drop (i + 1) ps)) (values (drop i ps)) c.loop-node.fault c.fault_of.result c.worse-fault.result (values_from ps i c.loop-node-item.result c.loop-node-test.true c.loop-node-item.is) c.loop-node.invariant c.fault_of.ensures c.worse-fault.ensures

pub fault_among_pairs-returns : goal.fault_among_pairs-returns
fault_among_pairs-returns t c =
    fault_before_none c.args.depths.now c.args.room (values c.args.pairs.now) (values (drop c.loop-node.node-index c.args.pairs.now)) c.loop-node.fault (no_values c.args.pairs.now c.loop-node.node-index c.loop-node-test.false) c.loop-node.invariant

pub fault_among_values-loop-node-preserved : goal.fault_among_values-loop-node-preserved
fault_among_values-loop-node-preserved t c = (
  tt,
  tt,
  fault_before_more c.args.depths.now c.args.room (values c.args.values.now.entries) c.in-Some.node.now (values c.next.new.self) (values c.loop-node.node-iterator) c.loop-node.fault c.fault_of.result c.worse-fault.result (ap values c.in-Some.ensures.steps) c.loop-node.invariant.2 c.fault_of.ensures c.worse-fault.ensures,
)

pub fault_among_values-returns : goal.fault_among_values-returns
fault_among_values-returns t c =
    fault_before_none c.args.depths.now c.args.room (values c.args.values.now.entries) (values c.loop-node.node-iterator) c.loop-node.fault (ap values c.in-None.ensures.steps.0) c.loop-node.invariant.2

pub fault_in_kept-returns-then-repeats_key : goal.fault_in_kept-returns-then-repeats_key
fault_in_kept-returns-then-repeats_key t c =
    let v = c.args.pairs.now in
    let inner = c.inside-room.result in
    let h = subst (λ qs. NodeFaults c.args.depths.now inner.0 (values qs) c.fault_among_pairs.result) c.as_slice.ensures.value c.fault_among_pairs.ensures in
    kept_twice_fault c.args.depths.now c.args.room inner.0 inner.1 c.fault_among_pairs.result c.worse-among.result c.worse.result v c.inside-room.ensures (c.if-repeats_key.ensures.0 refl) h c.worse-among.ensures c.worse.ensures

pub fault_in_kept-returns-else-repeats_key : goal.fault_in_kept-returns-else-repeats_key
fault_in_kept-returns-else-repeats_key t c =
    let v = c.args.pairs.now in
    let inner = c.inside-room.result in
    let few : length v.items < 2 ^ 64 = omega (arith, v.ok) in
    let h = subst (λ qs. NodeFaults c.args.depths.now inner.0 (values qs) c.fault_among_pairs.result) c.as_slice.ensures.value c.fault_among_pairs.ensures in
    kept_once_fault c.args.depths.now c.args.room inner.0 inner.1 c.fault_among_pairs.result c.worse-among.result v c.inside-room.ensures few (λ twice. true≢false (sym (c.if-repeats_key.ensures.1 twice))) h c.worse-among.ensures

pub fault_in_list-returns : goal.fault_in_list-returns
fault_in_list-returns t c =
    let v = c.args.nodes.now in
    let inner = c.inside-room.result in
    let few : length v.items < 2 ^ 64 = omega (arith, v.ok) in
    list_node_fault c.args.depths.now c.args.room inner.0 inner.1 c.fault_among.result c.worse.result v c.inside-room.ensures few (subst (λ ms. NodeFaults c.args.depths.now inner.0 ms c.fault_among.result) c.as_slice.ensures.value c.fault_among.ensures) c.worse.ensures

pub fault_in_map-returns-clause-ordered : goal.fault_in_map-returns-clause-ordered
fault_in_map-returns-clause-ordered t c =
    let m = c.args.values.now in
    let inner = c.inside-room.result in
    let few : length m.entries < 2 ^ 64 = omega (arith, c.len-count.ensures.len, c.len-count.ensures.small) in
    ordered_fault c.args.depths.now c.args.room inner.0 inner.1 c.fault_among_values.result c.worse.result m c.inside-room.ensures few c.len-count.ensures.ordered c.fault_among_values.ensures c.worse.ensures

pub fault_in_map-returns-clause-hashed : goal.fault_in_map-returns-clause-hashed
fault_in_map-returns-clause-hashed t c =
    let m = c.args.values.now in
    let inner = c.inside-room.result in
    let few : length m.entries < 2 ^ 64 = omega (arith, c.len-count.ensures.len, c.len-count.ensures.small) in
    hashed_fault c.args.depths.now c.args.room inner.0 inner.1 c.fault_among_values.result c.worse.result m c.inside-room.ensures few c.len-count.ensures.ordered c.fault_among_values.ensures c.worse.ensures

pub fault_of-returns-in-Text : goal.fault_of-returns-in-Text
fault_of-returns-in-Text t c = text_fault c.args.depths.now c.args.room c.args.node.now c.in-Text.field-0 c.in-Text.is

pub fault_of-returns-in-Shared : goal.fault_of-returns-in-Shared
fault_of-returns-in-Shared t c = shared_fault c.args.depths.now c.args.room c.args.node.now c.in-Shared.field-0 c.in-Shared.is

pub fault_in_option-returns-in-Some : goal.fault_in_option-returns-in-Some
fault_in_option-returns-in-Some t c =
    let inner = c.inside-room.result in
    subst (λ o. NodeFault c.args.depths.now c.args.room (node.Maybe o) c.worse.result) (sym c.in-Some.is) (some_fault c.args.depths.now c.args.room inner.0 inner.1 c.fault_of.result c.worse.result c.in-Some.node c.inside-room.ensures (rw (← c.deref.ensures) c.fault_of.ensures) c.worse.ensures)

pub fault_in_option-returns-in-None : goal.fault_in_option-returns-in-None
fault_in_option-returns-in-None t c =
    let inner = c.inside-room.result in
    subst (λ o. NodeFault c.args.depths.now c.args.room (node.Maybe o) inner.1) (sym c.in-None.is) (none_fault c.args.depths.now c.args.room inner.0 inner.1 c.inside-room.ensures)

pub fault_of-returns-in-Maybe : goal.fault_of-returns-in-Maybe
fault_of-returns-in-Maybe t c = subst (λ n. NodeFault c.args.depths.now c.args.room n c.fault_in_option.result) (sym c.in-Maybe.is) c.fault_in_option.ensures

pub fault_of-returns-in-List : goal.fault_of-returns-in-List
fault_of-returns-in-List t c = subst (λ n. NodeFault c.args.depths.now c.args.room n c.fault_in_list.result) (sym c.in-List.is) c.fault_in_list.ensures

pub fault_of-returns-in-Ordered : goal.fault_of-returns-in-Ordered
fault_of-returns-in-Ordered t c = subst (λ n. NodeFault c.args.depths.now c.args.room n c.fault_in_map.result) (sym c.in-Ordered.is) c.fault_in_map.ensures.ordered

pub fault_of-returns-in-Hashed : goal.fault_of-returns-in-Hashed
fault_of-returns-in-Hashed t c = subst (λ n. NodeFault c.args.depths.now c.args.room n c.fault_in_map-in-Hashed.result) (sym c.in-Hashed.is) c.fault_in_map-in-Hashed.ensures.hashed

pub fault_of-returns-in-Kept : goal.fault_of-returns-in-Kept
fault_of-returns-in-Kept t c = subst (λ n. NodeFault c.args.depths.now c.args.room n c.fault_in_kept.result) (sym c.in-Kept.is) c.fault_in_kept.ensures

pub fault_of-returns-in-Whole : goal.fault_of-returns-in-Whole
fault_of-returns-in-Whole t c = subst (λ n. NodeFault c.args.depths.now c.args.room n c.fault_of_whole.result) (sym c.in-Whole.is) c.fault_of_whole.ensures
