use Rattle.std.proofs.Common.{◌+◌, ◌<◌, ◌^◌, ◌++◌, drop, length, arith, ap, ◌∙◌, refl}
use Rattle.cabinet_text_grammar.specs.Completing.{text_in}
use Rattle.cabinet_text_nodes.specs.View.{node_tree}
use Rattle.cabinet_text_nodes.proofs.NodeFaults.{nodes_from}
use Rattle.cabinet_text_nodes.proofs.Repeats.{more_unique, found_twice}
use Rattle.cabinet_text_nodes.proofs.table.repeats_whole.Goals as goal

pub returns-then-not-is_new-clause-repeats : goal.returns-then-not-is_new-clause-repeats
returns-then-not-is_new-clause-repeats c =
    let ns = c.args.wholes.now in
    let i = c.loop-node.node-index in
    let n = c.node-item.result in
    let few : length ns < 2 ^ 64 = omega (arith, c.well_formed) in
    found_twice ns few n (drop (i + 1) ns) (drop i ns) c.loop-node.texts.keys c.write_node.new.writer c.in_ok-is_new.is_new (nodes_from ns i n c.loop-node-test.true c.node-item.is) c.loop-node.invariant
    (λ table is known. (c.in_ok-write_node.ensures.lines table is known).gains refl ∙ ap (λ w. w ++ text_in table (node_tree table n)) c.new-text.ensures.items)
    c.in_ok-is_new.ensures.added c.if-not-is_new.true

pub loop-node-preserved : goal.loop-node-preserved
loop-node-preserved c =
    let ns = c.args.wholes.now in
    let i = c.loop-node.node-index in
    let n = c.node-item.result in
    let few : length ns < 2 ^ 64 = omega (arith, c.well_formed) in
    more_unique ns few n (drop (i + 1) ns) (drop i ns) c.loop-node.texts.keys c.write_node.new.writer c.in_ok-is_new.is_new (nodes_from ns i n c.loop-node-test.true c.node-item.is) c.loop-node.invariant
    (λ table is known. (c.in_ok-write_node.ensures.lines table is known).gains refl ∙ ap (λ w. w ++ text_in table (node_tree table n)) c.new-text.ensures.items)
    c.in_ok-is_new.ensures.added c.insert.new.self.keys c.if-not-is_new.false c.in_ok-is_new.ensures.keys
