use Rattle.std.proofs.Common.{ap, ◌∙◌, arith}
use Rattle.cabinet_text_grammar.specs.Keys.{ordered, hashed, kept}
use Rattle.cabinet_text_nodes.specs.View.{node_tree}
use Rattle.cabinet_text_nodes.proofs.Views.{node_tree-list, node_tree-ordered, node_tree-hashed, node_tree-kept, head-list, head-map, head-whole}
use Rattle.cabinet_text_nodes.proofs.node.Node.head.Goals as goal

pub returns-in-List : goal.returns-in-List
returns-in-List c table =
    let v = c.in-List.nodes in
    head-list table v.items c.len.result (ap (node_tree table) c.in-List.is ∙ node_tree-list table v) (omega (arith, v.ok, c.len.ensures))

pub returns-in-Ordered : goal.returns-in-Ordered
returns-in-Ordered c table =
    let m = c.in-Ordered.pairs in
    head-map table ordered m.entries c.len-in-Ordered.result (ap (node_tree table) c.in-Ordered.is ∙ node_tree-ordered table m) c.len-in-Ordered.ensures.len

pub returns-in-Hashed : goal.returns-in-Hashed
returns-in-Hashed c table =
    let m = c.in-Hashed.pairs in
    head-map table hashed m.entries c.len-in-Hashed.result (ap (node_tree table) c.in-Hashed.is ∙ node_tree-hashed table m) c.len-in-Hashed.ensures.len

pub returns-in-Kept : goal.returns-in-Kept
returns-in-Kept c table =
    let v = c.in-Kept.pairs in
    head-map table kept v.items c.len-in-Kept.result (ap (node_tree table) c.in-Kept.is ∙ node_tree-kept table v) (omega (arith, v.ok, c.len-in-Kept.ensures))

pub returns-in-Whole : goal.returns-in-Whole
returns-in-Whole c table = head-whole table c.in-Whole.field-0 (ap (node_tree table) c.in-Whole.is)
