use Rattle.std.proofs.Common.{ap, rules, ◌∙◌}
use Rattle.cabinet_text_grammar.specs.Keys.{ordered, hashed}
use Rattle.cabinet_text_grammar.specs.Tree.{map}
use Rattle.cabinet_text_nodes.proofs.Views.{node_tree-ordered, node_tree-hashed}
use Rattle.cabinet_text_reading.proofs.stack.pairs.Pairs.into_node.Goals as goal

pub returns-in_ok-into_map-in-Ordered-clause-node : goal.returns-in_ok-into_map-in-Ordered-clause-node
returns-in_ok-into_map-in-Ordered-clause-node c table =
    let tree = node_tree-ordered table c.in_ok-into_map-in-Ordered.field-0 ∙ ap (map ordered) (c.in_ok-into_map-in-Ordered.ensures.pairs table) in
    search rules

pub returns-in_ok-into_map-in-Hashed-clause-node : goal.returns-in_ok-into_map-in-Hashed-clause-node
returns-in_ok-into_map-in-Hashed-clause-node c table =
    let tree = node_tree-hashed table c.in_ok-into_map-in-Hashed.field-0 ∙ ap (map hashed) (c.in_ok-into_map-in-Hashed.ensures.pairs table) in
    search rules
