use Rattle.std.proofs.Common.{◌++◌, String, Global, length, refl, sym, ap, ◌∙◌, subst, inl, inr}
use Rattle.std.specs.Prelude.{IsTrue}
use Rattle.std.proofs.lemmas.List.{take_all}
use Rattle.cabinet_text_grammar.specs.Item.{whole_item}
use Rattle.cabinet_text_grammar.specs.Tree as tree
use Rattle.cabinet_text_grammar.specs.Keys.{ordered, hashed, kept}
use Rattle.cabinet_text_nodes.specs.declared.node.Node.{Node}
use Rattle.cabinet_text_nodes.specs.declared.node.Node.TheVariants as node
use Rattle.cabinet_text_nodes.specs.View.{node_tree, node_trees, node_pairs, known_below, all_known}
use Rattle.cabinet_text_nodes.proofs.Views.{node_tree-none, node_tree-some, node_tree-list, node_tree-ordered, node_tree-hashed, node_tree-kept}
use Rattle.cabinet_text_nodes.proofs.Faults.{values, known-some, known-list, known-ordered, known-hashed, known-kept}
use Rattle.cabinet_text_nodes.proofs.NodeTexts.{added_at, added_more, added_last, node_added, node_added_alone, node_items, nodes_items, pair_items, pairs_items, line_added, gained}
use Rattle.cabinet_text_nodes.proofs.Texts.{whole_items, alone, inside, known_at, known_value_at, known_value_after}
use Rattle.cabinet_text_nodes.proofs.node_text.NodeText.+texts.Goals as goal

pub add_node-returns-in-Whole : goal.add_node-returns-in-Whole
add_node-returns-in-Whole t c table is known =
    line_added table c.args.self.now c.write_whole_line.new.writer (whole_item c.in-Whole.number) (node_items table c.args.node.now) c.write_whole_line.result refl refl
    (whole_items table c.args.node.now c.in-Whole.number c.in-Whole.is is known) (gained _ _ _ _ c.write_whole_line.result refl c.write_whole_line.ensures)

pub add_node-returns-in-Some : goal.add_node-returns-in-Some
add_node-returns-in-Some t c table is known =
    let b = c.in-Some.inner in
    let same = c.in-Maybe.is ∙ ap node.Maybe c.in-Some.is in
    let inner = sym (ap (known_below (length table)) same ∙ known-some (length table) b ∙ ap (known_below (length table)) (sym c.deref.ensures)) ∙ known in
    node_added table c.add_node.new.self c.args.node.now (tree.just (node_tree table b.value)) c.add_node.result c.in_default.not-Whole (ap (node_tree table) same ∙ node_tree-some table b) (c.in_ok-add_head.ensures table) (rw c.deref.ensures at (c.add_node.ensures table is inner))

pub add_node-returns-in-None : goal.add_node-returns-in-None
add_node-returns-in-None t c table is known =
    node_added_alone table c.args.node.now c.in_default.not-Whole (ap (inside table) (ap (node_tree table) (c.in-Maybe.is ∙ ap node.Maybe c.in-None.is) ∙ node_tree-none table)) (c.in_ok-add_head.ensures table)

pub add_node-returns-in_default-node : goal.add_node-returns-in_default-node
add_node-returns-in_default-node t c table is known =
    let d = c.in_default-node in
    node_added_alone table c.args.node.now c.in_default.not-Whole (alone table c.args.node.now d.not-Maybe d.not-List d.not-Ordered d.not-Hashed d.not-Kept) (c.in_ok-add_head.ensures table)

pub add_node-returns-in-List : goal.add_node-returns-in-List
add_node-returns-in-List t c table is known =
    let v = c.in-List.nodes in
    let inner = subst (λ ns. IsTrue (all_known (length table) ns)) (sym c.as_slice.ensures.value) (sym (ap (known_below (length table)) c.in-List.is ∙ known-list (length table) v) ∙ known) in
    node_added table c.add_nodes.new.self c.args.node.now (tree.list (node_trees table v.items)) c.add_nodes.result c.in_default.not-Whole (ap (node_tree table) c.in-List.is ∙ node_tree-list table v) (c.in_ok-add_head.ensures table) (rw c.as_slice.ensures.value at (c.add_nodes.ensures table is inner))

pub add_node-returns-in-Kept : goal.add_node-returns-in-Kept
add_node-returns-in-Kept t c table is known =
    let v = c.in-Kept.pairs in
    let inner = subst (λ ps. IsTrue (all_known (length table) (values ps))) (sym c.as_slice-in-Kept.ensures.value) (sym (ap (known_below (length table)) c.in-Kept.is ∙ known-kept (length table) v) ∙ known) in
    node_added table c.add_pairs.new.self c.args.node.now (tree.map kept (node_pairs table v.items)) c.add_pairs.result c.in_default.not-Whole (ap (node_tree table) c.in-Kept.is ∙ node_tree-kept table v) (c.in_ok-add_head.ensures table) (rw c.as_slice-in-Kept.ensures.value at (c.add_pairs.ensures table is inner))

pub add_node-returns-in-Ordered : goal.add_node-returns-in-Ordered
add_node-returns-in-Ordered t c table is known =
    let m = c.in-Ordered.pairs in
    elim c.in-Ordered.is [
      | inl here ↦ node_added table c.add_map.new.self c.args.node.now (tree.map ordered (node_pairs table m.entries)) c.add_map.result c.in_default.not-Whole (ap (node_tree table) here ∙ node_tree-ordered table m) (c.in_ok-add_head.ensures table)
          (c.add_map.ensures table is (sym (ap (known_below (length table)) here ∙ known-ordered (length table) m) ∙ known))
      | inr here ↦ node_added table c.add_map.new.self c.args.node.now (tree.map hashed (node_pairs table m.entries)) c.add_map.result c.in_default.not-Whole (ap (node_tree table) here ∙ node_tree-hashed table m) (c.in_ok-add_head.ensures table)
          (c.add_map.ensures table is (sym (ap (known_below (length table)) here ∙ known-hashed (length table) m) ∙ known))
    ]

pub add_nodes-loop-node-preserved : goal.add_nodes-loop-node-preserved
add_nodes-loop-node-preserved t c = λ table is known.
    let here = known_at (length table) c.args.nodes.now c.loop-node.node-index c.node-item.result known c.loop-node-test.true c.node-item.is in
    added_at (node_items table) c.args.nodes.now c.loop-node.node-index c.node-item.result c.loop-node-test.true c.node-item.is (c.loop-node.invariant table is known) (c.in_ok-add_node.ensures table is here)

pub add_nodes-returns : goal.add_nodes-returns
add_nodes-returns t c table is known =
    rw (← nodes_items table c.args.nodes.now, ← take_all c.loop-node.node-index c.args.nodes.now c.loop-node-test.false) (c.loop-node.invariant table is known)

pub add_pairs-loop-key-preserved : goal.add_pairs-loop-key-preserved
add_pairs-loop-key-preserved t c = λ table is known.
    let here = known_value_at (length table) c.args.pairs.now c.loop-key.key-index c.loop-key-item.result known c.loop-key-test.true c.loop-key-item.is in
    let added = rw c.as_str.ensures.value at (c.in_ok-add_pair.ensures table is here) in
    added_at (pair_items table) c.args.pairs.now c.loop-key.key-index c.loop-key-item.result c.loop-key-test.true c.loop-key-item.is (c.loop-key.invariant table is known) added

pub add_pairs-returns : goal.add_pairs-returns
add_pairs-returns t c table is known =
    rw (← pairs_items table c.args.pairs.now, ← take_all c.loop-key.key-index c.args.pairs.now c.loop-key-test.false) (c.loop-key.invariant table is known)

pub add_map-loop-key-preserved : goal.add_map-loop-key-preserved
add_map-loop-key-preserved t c = (
  tt,
  tt,
  λ table is known.
      let before = c.loop-key.invariant.2 table is known in
      let pair : String Global × Node = (c.in-Some.key.now, c.in-Some.node.now) in
      let here = known_value_after (length table) c.args.pairs.now.entries before.done pair c.next.new.self (before.split ∙ ap (λ ps. before.done ++ ps) c.in-Some.ensures.steps) known in
      let added = rw c.as_str.ensures.value at (c.in_ok-add_pair.ensures table is here) in
      added_more (pair_items table) pair c.next.new.self c.in-Some.ensures.steps before added,
)

pub add_map-returns : goal.add_map-returns
add_map-returns t c table is known = rw (← pairs_items table c.args.pairs.now.entries) (added_last (pair_items table) c.in-None.ensures.steps.0 (c.loop-key.invariant.2 table is known))
