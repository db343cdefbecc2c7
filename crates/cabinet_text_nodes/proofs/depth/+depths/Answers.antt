use Rattle.std.proofs.Common.{◌+◌, drop, ap, subst, sym, ◌∙◌}
use Rattle.std.specs.Option.{unwrap_or}
use Rattle.cabinet_text_grammar.specs.Tree.{depth, most_depth}
use Rattle.cabinet_text_grammar.specs.Wholes.{numbered}
use Rattle.cabinet_text_nodes.specs.Depths.{NodesDepth}
use Rattle.cabinet_text_nodes.specs.View.{node_tree, node_trees}
use Rattle.cabinet_text_nodes.specs.declared.node.Node.TheVariants as node
use Rattle.cabinet_text_nodes.proofs.Faults.{values}
use Rattle.cabinet_text_nodes.proofs.Paths.{item_found}
use Rattle.cabinet_text_nodes.proofs.NodeFaults.{nodes_from, values_from, no_nodes, no_values}
use Rattle.cabinet_text_nodes.proofs.Depths.{depth-none, depth-some, depth-list, depth-ordered, depth-hashed, depth-kept, depth_inside, depth-whole, depth_found, depth_before_more, depth_before_none, container_depth}
use Rattle.cabinet_text_nodes.proofs.depth.+depths.Goals as goal
use Rattle.cabinet_text_nodes.proofs.depth.+depths.Goals.{depth_of-in-List, depth_of-in-Kept, depth_of-in-Whole, depth_of-in-Ordered, depth_of-in-Hashed}

pub depth_of-returns : goal.depth_of-returns
depth_of-returns t c =
    let whole = container_depth c.args.depths.now c.args.node.now c.match-node.inside c.saturating_add.result in
    elim c.match-node.branch [
      | depth_of-in-List w ↦
          whole (λ table. most_depth (node_trees table w.in-List.nodes.items)) (λ table. depth-list table w.in-List.nodes w.in-List.is) (rw w.inside-is (subst (λ ns. NodesDepth c.args.depths.now ns w.most_among-inside.result) w.deref.ensures.value w.most_among-inside.ensures)) c.saturating_add.ensures
      | depth_of-in-Kept w ↦
          whole (λ table. most_depth (node_trees table (values w.in-Kept.pairs.items))) (λ table. depth-kept table w.in-Kept.pairs w.in-Kept.is) (rw w.inside-is (subst (λ ps. NodesDepth c.args.depths.now (values ps) w.most_among_pairs-inside.result) w.deref-in-Kept.ensures.value w.most_among_pairs-inside.ensures)) c.saturating_add.ensures
      | depth_of-in-Whole w ↦
          whole (λ table. depth_inside (numbered table w.in-Whole.number)) (λ table. depth-whole table w.in-Whole.number w.in-Whole.is) (λ table d small. w.inside-is ∙ w.unwrap_or-inside.ensures ∙ ap (λ o. unwrap_or o 0) (w.copied.ensures ∙ item_found (λ x. x.now) c.args.depths.now w.in-Whole.number w.get.result w.get.ensures.lookup) ∙ depth_found table c.args.depths.now w.in-Whole.number d) c.saturating_add.ensures
      | depth_of-in-Ordered w ↦
          whole (λ table. most_depth (node_trees table (values w.in-Ordered.values.entries))) (λ table. depth-ordered table w.in-Ordered.values w.in-Ordered.is) (rw w.inside-is w.most_among_values-inside.ensures) c.saturating_add.ensures
      | depth_of-in-Hashed w ↦
          whole (λ table. most_depth (node_trees table (values w.in-Hashed.values.entries))) (λ table. depth-hashed table w.in-Hashed.values w.in-Hashed.is) (rw w.inside-is w.most_among_values-inside-in-Hashed.ensures) c.saturating_add.ensures
    ]

pub depth_of_option-returns-in-Some : goal.depth_of_option-returns-in-Some
depth_of_option-returns-in-Some t c =
    let b = c.in-Some.node in
    container_depth c.args.depths.now (node.Maybe c.args.content.now) c.depth_of.result c.saturating_add.result (λ table. depth (node_tree table b.value)) (λ table. depth-some table b (ap node.Maybe c.in-Some.is)) (rw (← c.deref.ensures) c.depth_of.ensures) c.saturating_add.ensures

pub depth_of_option-returns-in-None : goal.depth_of_option-returns-in-None
depth_of_option-returns-in-None t c table d small = sym (depth-none table (ap node.Maybe c.in-None.is))

pub most_among-loop-node-preserved : goal.most_among-loop-node-preserved
most_among-loop-node-preserved t c =
    let ns = c.args.nodes.now in
    let i = c.loop-node.node-index in
    depth_before_more c.args.depths.now ns c.node-item.result (drop (i + 1) ns) (drop i ns) c.loop-node.most c.depth_of.result c.max-most.result (nodes_from ns i c.node-item.result c.loop-node-test.true c.node-item.is) c.loop-node.invariant c.depth_of.ensures c.max-most.ensures

pub most_among-returns : goal.most_among-returns
most_among-returns t c =
    depth_before_none c.args.depths.now c.args.nodes.now (drop c.loop-node.node-index c.args.nodes.now) c.loop-node.most (no_nodes c.args.nodes.now c.loop-node.node-index c.loop-node-test.false) c.loop-node.invariant

pub most_among_pairs-loop-node-preserved : goal.most_among_pairs-loop-node-preserved
most_among_pairs-loop-node-preserved t c =
    let ps = c.args.pairs.now in
    let i = c.loop-node.node-index in
    depth_before_more c.args.depths.now (values ps) c.loop-node-item.result.1 (values (drop (i + 1) ps)) (values (drop i ps)) c.loop-node.most c.depth_of.result c.max-most.result (values_from ps i c.loop-node-item.result c.loop-node-test.true c.loop-node-item.is) c.loop-node.invariant c.depth_of.ensures c.max-most.ensures

pub most_among_pairs-returns : goal.most_among_pairs-returns
most_among_pairs-returns t c =
    depth_before_none c.args.depths.now (values c.args.pairs.now) (values (drop c.loop-node.node-index c.args.pairs.now)) c.loop-node.most (no_values c.args.pairs.now c.loop-node.node-index c.loop-node-test.false) c.loop-node.invariant

pub most_among_values-loop-node-preserved : goal.most_among_values-loop-node-preserved
most_among_values-loop-node-preserved t c = (
  tt,
  tt,
  depth_before_more c.args.depths.now (values c.args.values.now.entries) c.in-Some.node.now (values c.next.new.self) (values c.loop-node.node-iterator) c.loop-node.most c.depth_of.result c.max-most.result (ap values c.in-Some.ensures.steps) c.loop-node.invariant.2 c.depth_of.ensures c.max-most.ensures,
)

pub most_among_values-returns : goal.most_among_values-returns
most_among_values-returns t c =
    depth_before_none c.args.depths.now (values c.args.values.now.entries) (values c.loop-node.node-iterator) c.loop-node.most (ap values c.in-None.ensures.steps.0) c.loop-node.invariant.2
