use Rattle.std.proofs.Common.{subst}
use Rattle.cabinet_text_grammar.specs.Wholes.{with_wholes}
use Rattle.cabinet_text_nodes.specs.Order.{IsWalk}
use Rattle.cabinet_text_nodes.specs.View.{node_tree, table_of}
use Rattle.cabinet_text_nodes.proofs.Restructures.{walk_tells, walk_stops}
use Rattle.cabinet_text_nodes.proofs.restructuring.replacing.has_no_whole.Goals as goal

pub returns-in-Some : goal.returns-in-Some
returns-in-Some c table legal =
    let t = table_of c.args.wholes.now in
    let n = node_tree t c.args.node.now in
    walk_tells t n c.in-Some.complete (subst (IsWalk t 0 (λ done. with_wholes done n)) c.in-Some.is (c.walk_node.ensures table legal))

pub returns-in-None : goal.returns-in-None
returns-in-None c table legal =
    let t = table_of c.args.wholes.now in
    let n = node_tree t c.args.node.now in
    walk_stops t n (subst (IsWalk t 0 (λ done. with_wholes done n)) c.in-None.is (c.walk_node.ensures table legal))
