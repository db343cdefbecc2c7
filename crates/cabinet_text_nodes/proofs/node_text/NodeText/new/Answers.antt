use Rattle.cabinet_text_grammar.specs.Item.{items}
use Rattle.cabinet_text_nodes.specs.View.{node_tree}
use Rattle.cabinet_text_nodes.proofs.NodeTexts.{added_all}
use Rattle.cabinet_text_nodes.proofs.node_text.NodeText.new.Goals as goal

pub returns : goal.returns
returns c table is known =
    added_all (items table (node_tree table c.args.node.now)) c.new.ensures.items c.new-2.ensures.items (c.in_ok-add_node.ensures table is known)
