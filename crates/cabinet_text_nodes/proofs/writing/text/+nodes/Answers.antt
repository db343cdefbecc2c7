use Rattle.std.proofs.Common.{◌++◌, String, Global, length, refl, sym, ap, ◌∙◌, subst, inl, inr}
use Rattle.std.specs.Prelude.{IsTrue}
use Rattle.std.proofs.lemmas.List.{take_all}
use Rattle.std.proofs.lemmas.Result.{err_from_is_err_and}
use Rattle.archive_shape_layout.proofs.Joined.{appends_after, failed_first}
use Rattle.cabinet_text_grammar.specs.Tree as tree
use Rattle.cabinet_text_grammar.specs.Keys.{ordered, hashed, kept}
use Rattle.cabinet_text_grammar.specs.Item.{items_of, items_of_pairs}
use Rattle.cabinet_text_grammar.specs.Spelling.{lines_of, ended}
use Rattle.cabinet_text_nodes.specs.declared.node.Node.{Node}
use Rattle.cabinet_text_nodes.specs.declared.node.Node.TheVariants as node
use Rattle.cabinet_text_nodes.specs.View.{node_tree, node_trees, node_pairs, known_below, all_known}
use Rattle.cabinet_text_nodes.proofs.Views.{node_tree-none, node_tree-some, node_tree-list, node_tree-ordered, node_tree-hashed, node_tree-kept}
use Rattle.cabinet_text_nodes.proofs.Faults.{values, known-some, known-list, known-ordered, known-hashed, known-kept}
use Rattle.cabinet_text_nodes.proofs.Pieces.{one_more, one_failed, all_written, one_more_at, failed_at}
use Rattle.cabinet_text_nodes.proofs.Texts.{node_lines, pair_lines, whole_line, inside, alone, node_appends, node_alone, node_failed, nodes_lines, pairs_lines, known_at, known_value_at, known_value_after}
use Rattle.cabinet_text_nodes.proofs.writing.text.+nodes.Goals as goal

pub write_node-returns-in-Whole-clause-lines : goal.write_node-returns-in-Whole-clause-lines
write_node-returns-in-Whole-clause-lines g t c table is known =
    rw (whole_line table c.args.node.now c.in-Whole.number c.in-Whole.is is known) c.write_whole_line.ensures

pub write_node-returns-in_err-write_head-clause-lines : goal.write_node-returns-in_err-write_head-clause-lines
write_node-returns-in_err-write_head-clause-lines g t c table is known =
    let p = err_from_is_err_and c.from_residual.result c.from_residual.ensures.1 in
    rw (p.1, p.2) (node_failed table c.args.node.now c.in_default.not-Whole (c.head.ensures table) c.in_err-write_head.ensures)

pub write_node-returns-in-Some-clause-lines : goal.write_node-returns-in-Some-clause-lines
write_node-returns-in-Some-clause-lines g t c table is known =
    let b = c.in-Some.inner in
    let same = c.in-Maybe.is ∙ ap node.Maybe c.in-Some.is in
    let inner = sym (ap (known_below (length table)) same ∙ known-some (length table) b ∙ ap (known_below (length table)) (sym c.deref.ensures)) ∙ known in
    node_appends table c.write_node.new.writer c.args.node.now (tree.just (node_tree table b.value)) _ c.write_node.result c.in_default.not-Whole (c.head.ensures table) (ap (node_tree table) same ∙ node_tree-some table b) (ap (node_lines table) (sym c.deref.ensures)) c.in_ok-write_head.ensures (c.write_node.ensures.lines table is inner)

pub write_node-returns-in-None-clause-lines : goal.write_node-returns-in-None-clause-lines
write_node-returns-in-None-clause-lines g t c table is known =
    node_alone table c.args.node.now c.in_default.not-Whole (c.head.ensures table) (ap (inside table) (ap (node_tree table) (c.in-Maybe.is ∙ ap node.Maybe c.in-None.is) ∙ node_tree-none table)) c.in_ok-write_head.ensures

pub write_node-returns-in_default-node-clause-lines : goal.write_node-returns-in_default-node-clause-lines
write_node-returns-in_default-node-clause-lines g t c table is known =
    let d = c.in_default-node in
    node_alone table c.args.node.now c.in_default.not-Whole (c.head.ensures table) (alone table c.args.node.now d.not-Maybe d.not-List d.not-Ordered d.not-Hashed d.not-Kept) c.in_ok-write_head.ensures

pub write_node-returns-in-List-clause-lines : goal.write_node-returns-in-List-clause-lines
write_node-returns-in-List-clause-lines g t c table is known =
    let v = c.in-List.nodes in
    let inner = subst (λ ns. IsTrue (all_known (length table) ns)) (sym c.as_slice.ensures.value) (sym (ap (known_below (length table)) c.in-List.is ∙ known-list (length table) v) ∙ known) in
    node_appends table c.write_nodes.new.writer c.args.node.now (tree.list (node_trees table v.items)) _ c.write_nodes.result c.in_default.not-Whole (c.head.ensures table) (ap (node_tree table) c.in-List.is ∙ node_tree-list table v) (ap (λ ns. ended (lines_of (items_of table (node_trees table ns)))) (sym c.as_slice.ensures.value)) c.in_ok-write_head.ensures (c.write_nodes.ensures.lines table is inner)

pub write_node-returns-in-Kept-clause-lines : goal.write_node-returns-in-Kept-clause-lines
write_node-returns-in-Kept-clause-lines g t c table is known =
    let v = c.in-Kept.pairs in
    let inner = subst (λ ps. IsTrue (all_known (length table) (values ps))) (sym c.as_slice-in-Kept.ensures.value) (sym (ap (known_below (length table)) c.in-Kept.is ∙ known-kept (length table) v) ∙ known) in
    node_appends table c.write_pairs.new.writer c.args.node.now (tree.map kept (node_pairs table v.items)) _ c.write_pairs.result c.in_default.not-Whole (c.head.ensures table) (ap (node_tree table) c.in-Kept.is ∙ node_tree-kept table v) (ap (λ ps. ended (lines_of (items_of_pairs table (node_pairs table ps)))) (sym c.as_slice-in-Kept.ensures.value)) c.in_ok-write_head.ensures (c.write_pairs.ensures.lines table is inner)

pub write_node-returns-in-Ordered-clause-lines : goal.write_node-returns-in-Ordered-clause-lines
write_node-returns-in-Ordered-clause-lines g t c table is known =
    let m = c.in-Ordered.pairs in
    elim c.in-Ordered.is [
      | inl here ↦ node_appends table c.write_map.new.writer c.args.node.now (tree.map ordered (node_pairs table m.entries)) _ c.write_map.result c.in_default.not-Whole (c.head.ensures table) (ap (node_tree table) here ∙ node_tree-ordered table m) refl c.in_ok-write_head.ensures
          (c.write_map.ensures.lines table is (sym (ap (known_below (length table)) here ∙ known-ordered (length table) m) ∙ known))
      | inr here ↦ node_appends table c.write_map.new.writer c.args.node.now (tree.map hashed (node_pairs table m.entries)) _ c.write_map.result c.in_default.not-Whole (c.head.ensures table) (ap (node_tree table) here ∙ node_tree-hashed table m) refl c.in_ok-write_head.ensures
          (c.write_map.ensures.lines table is (sym (ap (known_below (length table)) here ∙ known-hashed (length table) m) ∙ known))
    ]

pub write_nodes-loop-node-preserved : goal.write_nodes-loop-node-preserved
write_nodes-loop-node-preserved g t c = record {
  quiet = c.in_ok-write_node.ensures.quiet ∙ c.loop-node.invariant.quiet;
  lines = λ table is known.
      let here = known_at (length table) c.args.nodes.now c.loop-node.node-index c.node-item.result known c.loop-node-test.true c.node-item.is in
      one_more_at (node_lines table) c.args.nodes.now c.loop-node.node-index c.node-item.result c.loop-node-test.true c.node-item.is (c.loop-node.invariant.lines table is known) (c.in_ok-write_node.ensures.lines table is here);
}

pub write_nodes-returns-in_err-write_node-clause-lines : goal.write_nodes-returns-in_err-write_node-clause-lines
write_nodes-returns-in_err-write_node-clause-lines g t c table is known =
    let p = err_from_is_err_and c.from_residual.result c.from_residual.ensures.1 in
    let here = known_at (length table) c.args.nodes.now c.loop-node.node-index c.node-item.result known c.loop-node-test.true c.node-item.is in
    rw (p.1, p.2) (failed_at (node_lines table) c.args.nodes.now c.loop-node.node-index c.node-item.result (nodes_lines table c.args.nodes.now) c.loop-node-test.true c.node-item.is (c.loop-node.invariant.lines table is known) (c.in_err-write_node.ensures.lines table is here))

pub write_nodes-returns-clause-lines : goal.write_nodes-returns-clause-lines
write_nodes-returns-clause-lines g t c table is known =
    rw (← nodes_lines table c.args.nodes.now, ← take_all c.loop-node.node-index c.args.nodes.now c.loop-node-test.false) (c.loop-node.invariant.lines table is known)

pub write_pair-returns-in_err-write_key_line-clause-lines : goal.write_pair-returns-in_err-write_key_line-clause-lines
write_pair-returns-in_err-write_key_line-clause-lines g t c table is known =
    let p = err_from_is_err_and c.from_residual.result c.from_residual.ensures.1 in
    rw (p.1, p.2) (failed_first (node_lines table c.args.value.now) c.in_err-write_key_line.ensures)

pub write_pair-returns-clause-lines : goal.write_pair-returns-clause-lines
write_pair-returns-clause-lines g t c table is known =
    appends_after c.write_node.new.writer (node_lines table c.args.value.now) c.write_node.result c.in_ok-write_key_line.ensures (c.write_node.ensures.lines table is known)

pub write_pairs-loop-key-preserved : goal.write_pairs-loop-key-preserved
write_pairs-loop-key-preserved g t c = record {
  quiet = c.in_ok-write_pair.ensures.quiet ∙ c.loop-key.invariant.quiet;
  lines = λ table is known.
      let here = known_value_at (length table) c.args.pairs.now c.loop-key.key-index c.loop-key-item.result known c.loop-key-test.true c.loop-key-item.is in
      let written = rw c.as_str.ensures.value at (c.in_ok-write_pair.ensures.lines table is here) in
      one_more_at (pair_lines table) c.args.pairs.now c.loop-key.key-index c.loop-key-item.result c.loop-key-test.true c.loop-key-item.is (c.loop-key.invariant.lines table is known) written;
}

pub write_pairs-returns-in_err-write_pair-clause-lines : goal.write_pairs-returns-in_err-write_pair-clause-lines
write_pairs-returns-in_err-write_pair-clause-lines g t c table is known =
    let p = err_from_is_err_and c.from_residual.result c.from_residual.ensures.1 in
    let here = known_value_at (length table) c.args.pairs.now c.loop-key.key-index c.loop-key-item.result known c.loop-key-test.true c.loop-key-item.is in
    let failed = rw c.as_str.ensures.value at (c.in_err-write_pair.ensures.lines table is here) in
    rw (p.1, p.2) (failed_at (pair_lines table) c.args.pairs.now c.loop-key.key-index c.loop-key-item.result (pairs_lines table c.args.pairs.now) c.loop-key-test.true c.loop-key-item.is (c.loop-key.invariant.lines table is known) failed)

pub write_pairs-returns-clause-lines : goal.write_pairs-returns-clause-lines
write_pairs-returns-clause-lines g t c table is known =
    rw (← pairs_lines table c.args.pairs.now, ← take_all c.loop-key.key-index c.args.pairs.now c.loop-key-test.false) (c.loop-key.invariant.lines table is known)

pub write_map-returns-in_err-write_pair-clause-lines : goal.write_map-returns-in_err-write_pair-clause-lines
write_map-returns-in_err-write_pair-clause-lines g t c table is known =
    let p = err_from_is_err_and c.from_residual.result c.from_residual.ensures.1 in
    let before = c.loop-key.invariant.3 table is known in
    let pair : String Global × Node = (c.in-Some.key.now, c.in-Some.node.now) in
    let here = known_value_after (length table) c.args.pairs.now.entries before.done pair c.next.new.self (before.split ∙ ap (λ ps. before.done ++ ps) c.in-Some.ensures.steps) known in
    let failed = rw c.as_str.ensures.value at (c.in_err-write_pair.ensures.lines table is here) in
    rw (p.1, p.2) (one_failed (pair_lines table) pair c.next.new.self (pairs_lines table c.args.pairs.now.entries) c.in-Some.ensures.steps before failed)

pub write_map-loop-key-preserved : goal.write_map-loop-key-preserved
write_map-loop-key-preserved g t c = (
  tt,
  tt,
  c.in_ok-write_pair.ensures.quiet ∙ c.loop-key.invariant.2,
  λ table is known.
      let before = c.loop-key.invariant.3 table is known in
      let pair : String Global × Node = (c.in-Some.key.now, c.in-Some.node.now) in
      let here = known_value_after (length table) c.args.pairs.now.entries before.done pair c.next.new.self (before.split ∙ ap (λ ps. before.done ++ ps) c.in-Some.ensures.steps) known in
      let written = rw c.as_str.ensures.value at (c.in_ok-write_pair.ensures.lines table is here) in
      one_more (pair_lines table) pair c.next.new.self c.in-Some.ensures.steps before written,
)

pub write_map-returns-clause-lines : goal.write_map-returns-clause-lines
write_map-returns-clause-lines g t c table is known = all_written (pair_lines table) (pairs_lines table c.args.pairs.now.entries) c.in-None.ensures.steps.0 (c.loop-key.invariant.3 table is known)
