use Rattle.std.proofs.Common.{◌≡◌, suc, ◌+◌, ap, subst, sym, ◌∙◌, drop, take, arith, Some}
use Rattle.cabinet_text_grammar.specs.Keys.{ordered, hashed, kept}
use Rattle.cabinet_text_grammar.specs.Tree.{depth, most_depth}
use Rattle.cabinet_text_nodes.specs.Order.{WalksNode, WalksNodes}
use Rattle.cabinet_text_nodes.specs.View.{node_tree, node_trees, table_of}
use Rattle.cabinet_text_nodes.specs.declared.node.Node.TheVariants as node
use Rattle.cabinet_text_nodes.proofs.Depths.{depth-ordered, depth-hashed, depth-kept}
use Rattle.cabinet_text_nodes.proofs.Faults.{values}
use Rattle.cabinet_text_nodes.proofs.NodeFaults.{nodes_from, values_from, no_nodes, no_values}
use Rattle.cabinet_text_nodes.proofs.Views.{node_tree-list, node_tree-ordered, node_tree-hashed, node_tree-kept}
use Rattle.cabinet_text_nodes.proofs.Walks.{node_found, no_node_found, entry_of, walk_before_more, walk_before_stopped, walk_before_none, walked_some, walked_list, walked_map, walked_complete, walked_nowhere, walked_whole, walked_too_soon, walked_stopped}
use Rattle.cabinet_text_nodes.proofs.order.+order.Goals as goal

pub walk_node-walk_values-requires : goal.walk_node-walk_values-requires
walk_node-walk_values-requires t c = let h = depth-ordered (table_of c.args.wholes.now) c.in-Ordered.values c.in-Ordered.is in (omega (arith, h), tt)

pub walk_node-walk_values-requires-in-Hashed : goal.walk_node-walk_values-requires-in-Hashed
walk_node-walk_values-requires-in-Hashed t c = let h = depth-hashed (table_of c.args.wholes.now) c.in-Hashed.values c.in-Hashed.is in (omega (arith, h), tt)

pub walk_node-walk_pairs-requires : goal.walk_node-walk_pairs-requires
walk_node-walk_pairs-requires t c =
    let h = depth-kept (table_of c.args.wholes.now) c.in-Kept.pairs c.in-Kept.is in
    let same = subst (λ ps. depth (node_tree (table_of c.args.wholes.now) c.args.node.now) ≡ suc (most_depth (node_trees (table_of c.args.wholes.now) (values ps)))) (sym c.deref-in-Kept.ensures.value) h in
    (omega (arith, same), tt)

pub walk_node-returns-in-List : goal.walk_node-returns-in-List
walk_node-returns-in-List t c =
    let table = table_of c.args.wholes.now in
    let v = c.in-List.nodes in
    walked_list c.args.wholes.now c.args.node.now v.items c.args.next c.walk_nodes.result (ap (node_tree table) c.in-List.is ∙ node_tree-list table v) (subst (λ ns. WalksNodes c.args.wholes.now ns c.args.next c.walk_nodes.result) c.deref.ensures.value c.walk_nodes.ensures)

pub walk_node-returns-in-Ordered : goal.walk_node-returns-in-Ordered
walk_node-returns-in-Ordered t c =
    let table = table_of c.args.wholes.now in
    let m = c.in-Ordered.values in
    walked_map c.args.wholes.now c.args.node.now ordered m.entries c.args.next c.walk_values.result (ap (node_tree table) c.in-Ordered.is ∙ node_tree-ordered table m) c.walk_values.ensures

pub walk_node-returns-in-Hashed : goal.walk_node-returns-in-Hashed
walk_node-returns-in-Hashed t c =
    let table = table_of c.args.wholes.now in
    let m = c.in-Hashed.values in
    walked_map c.args.wholes.now c.args.node.now hashed m.entries c.args.next c.walk_values-in-Hashed.result (ap (node_tree table) c.in-Hashed.is ∙ node_tree-hashed table m) c.walk_values-in-Hashed.ensures

pub walk_node-returns-in-Kept : goal.walk_node-returns-in-Kept
walk_node-returns-in-Kept t c =
    let table = table_of c.args.wholes.now in
    let v = c.in-Kept.pairs in
    walked_map c.args.wholes.now c.args.node.now kept v.items c.args.next c.walk_pairs.result (ap (node_tree table) c.in-Kept.is ∙ node_tree-kept table v) (subst (λ ps. WalksNodes c.args.wholes.now (values ps) c.args.next c.walk_pairs.result) c.deref-in-Kept.ensures.value c.walk_pairs.ensures)

pub walk_nodes-loop-node-preserved : goal.walk_nodes-loop-node-preserved
walk_nodes-loop-node-preserved t c =
    let ns = c.args.nodes.now in
    let i = c.loop-node.node-index in
    walk_before_more c.args.wholes.now ns c.node-item.result (drop (i + 1) ns) (drop i ns) c.args.next c.loop-node.complete c.in_ok-complete.complete (nodes_from ns i c.node-item.result c.loop-node-test.true c.node-item.is) c.loop-node.invariant c.in_ok-complete.ensures

pub walk_nodes-returns-in_err-complete : goal.walk_nodes-returns-in_err-complete
walk_nodes-returns-in_err-complete t c =
    let ns = c.args.nodes.now in
    let i = c.loop-node.node-index in
    rw c.from_residual.ensures (walk_before_stopped c.args.wholes.now ns c.node-item.result (drop (i + 1) ns) (drop i ns) c.args.next c.loop-node.complete (nodes_from ns i c.node-item.result c.loop-node-test.true c.node-item.is) c.loop-node.invariant c.in_err-complete.ensures)

pub walk_nodes-returns : goal.walk_nodes-returns
walk_nodes-returns t c =
    walk_before_none c.args.wholes.now c.args.nodes.now (drop c.loop-node.node-index c.args.nodes.now) c.args.next c.loop-node.complete (no_nodes c.args.nodes.now c.loop-node.node-index c.loop-node-test.false) c.loop-node.invariant

pub walk_pairs-loop-node-preserved : goal.walk_pairs-loop-node-preserved
walk_pairs-loop-node-preserved t c =
    let ps = c.args.pairs.now in
    let i = c.loop-node.node-index in
    walk_before_more c.args.wholes.now (values ps) c.loop-node-item.result.1 (values (drop (i + 1) ps)) (values (drop i ps)) c.args.next c.loop-node.complete c.in_ok-complete.complete (values_from ps i c.loop-node-item.result c.loop-node-test.true c.loop-node-item.is) c.loop-node.invariant c.in_ok-complete.ensures

pub walk_pairs-returns-in_err-complete : goal.walk_pairs-returns-in_err-complete
walk_pairs-returns-in_err-complete t c =
    let ps = c.args.pairs.now in
    let i = c.loop-node.node-index in
    rw c.from_residual.ensures (walk_before_stopped c.args.wholes.now (values ps) c.loop-node-item.result.1 (values (drop (i + 1) ps)) (values (drop i ps)) c.args.next c.loop-node.complete (values_from ps i c.loop-node-item.result c.loop-node-test.true c.loop-node-item.is) c.loop-node.invariant c.in_err-complete.ensures)

pub walk_pairs-returns : goal.walk_pairs-returns
walk_pairs-returns t c =
    walk_before_none c.args.wholes.now (values c.args.pairs.now) (values (drop c.loop-node.node-index c.args.pairs.now)) c.args.next c.loop-node.complete (no_values c.args.pairs.now c.loop-node.node-index c.loop-node-test.false) c.loop-node.invariant

pub walk_values-loop-node-preserved : goal.walk_values-loop-node-preserved
walk_values-loop-node-preserved t c = (
  tt,
  tt,
  walk_before_more c.args.wholes.now (values c.args.values.now.entries) c.in-Some.node.now (values c.next.new.self) (values c.loop-node.node-iterator) c.args.next c.loop-node.complete c.in_ok-complete.complete (ap values c.in-Some.ensures.steps) c.loop-node.invariant.2 c.in_ok-complete.ensures,
)

pub walk_values-returns-in_err-complete : goal.walk_values-returns-in_err-complete
walk_values-returns-in_err-complete t c =
    rw c.from_residual.ensures (walk_before_stopped c.args.wholes.now (values c.args.values.now.entries) c.in-Some.node.now (values c.next.new.self) (values c.loop-node.node-iterator) c.args.next c.loop-node.complete (ap values c.in-Some.ensures.steps) c.loop-node.invariant.2 c.in_err-complete.ensures)

pub walk_values-returns : goal.walk_values-returns
walk_values-returns t c =
    walk_before_none c.args.wholes.now (values c.args.values.now.entries) (values c.loop-node.node-iterator) c.args.next c.loop-node.complete (ap values c.in-None.ensures.steps.0) c.loop-node.invariant.2

pub walk_option-returns-in-Some : goal.walk_option-returns-in-Some
walk_option-returns-in-Some t c =
    subst (λ o. WalksNode c.args.wholes.now (node.Maybe o) c.args.next c.walk_node.result) (sym c.in-Some.is) (walked_some c.args.wholes.now c.in-Some.node c.args.next c.walk_node.result (rw (← c.deref.ensures) c.walk_node.ensures))

pub walk_whole-returns-then-number-next : goal.walk_whole-returns-then-number-next
walk_whole-returns-then-number-next t c = walked_complete c.args.wholes.now c.args.number c.args.next c.if-number-next.true

pub walk_whole-returns-in_err-node : goal.walk_whole-returns-in_err-node
walk_whole-returns-in_err-node t c = rw c.from_residual.ensures (walked_nowhere c.args.wholes.now c.args.number c.args.next (no_node_found c.args.wholes.now c.args.number c.in_err-node.ensures.lookup))

pub walk_whole-walk_node-requires : goal.walk_whole-walk_node-requires
walk_whole-walk_node-requires t c =
    let there = node_found c.args.wholes.now c.args.number c.in_ok-node.node c.in_ok-node.ensures.lookup in
    let deeper = ap depth (entry_of c.args.wholes.now c.args.number c.in_ok-node.node.now there).seen in
    (omega (arith, deeper), tt)

pub walk_whole-returns-in_err-complete : goal.walk_whole-returns-in_err-complete
walk_whole-returns-in_err-complete t c =
    let there = node_found c.args.wholes.now c.args.number c.in_ok-node.node c.in_ok-node.ensures.lookup in
    rw c.from_residual-in_err-complete.ensures (walked_stopped c.args.wholes.now c.args.number c.in_ok-node.node.now c.args.next there c.if-number-next.false c.in_err-complete.ensures)

pub walk_whole-returns-then-complete-number : goal.walk_whole-returns-then-complete-number
walk_whole-returns-then-complete-number t c =
    let there = node_found c.args.wholes.now c.args.number c.in_ok-node.node c.in_ok-node.ensures.lookup in
    walked_whole c.args.wholes.now c.args.number c.in_ok-node.node.now c.args.next there c.if-number-next.false (subst (λ k. WalksNode (take c.args.number c.args.wholes.now) c.in_ok-node.node.now c.args.next (Some k)) c.if-complete-number.true c.in_ok-complete.ensures)

pub walk_whole-returns-else-complete-number : goal.walk_whole-returns-else-complete-number
walk_whole-returns-else-complete-number t c =
    let there = node_found c.args.wholes.now c.args.number c.in_ok-node.node c.in_ok-node.ensures.lookup in
    walked_too_soon c.args.wholes.now c.args.number c.in_ok-node.node.now c.args.next there c.if-number-next.false c.in_ok-complete.complete c.if-complete-number.false c.in_ok-complete.ensures

pub walk_node-returns-in-Maybe : goal.walk_node-returns-in-Maybe
walk_node-returns-in-Maybe t c = subst (λ n. WalksNode c.args.wholes.now n c.args.next c.walk_option.result) (sym c.in-Maybe.is) c.walk_option.ensures

pub walk_node-returns-in-Whole : goal.walk_node-returns-in-Whole
walk_node-returns-in-Whole t c = subst (λ n. WalksNode c.args.wholes.now n c.args.next c.walk_whole.result) (sym c.in-Whole.is) c.walk_whole.ensures
