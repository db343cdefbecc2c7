use Rattle.std.proofs.Common.{sym, subst, rules}
use Rattle.cabinet_text_grammar.specs.Wholes.{IsNumbered, IsTable}
use Rattle.cabinet_text_nodes.specs.View.{node_tree}
use Rattle.cabinet_archived.specs.Archived.{table_in}
use Rattle.cabinet_archived.specs.declared.node_in.NodeIn.{NodeIn}
use Rattle.cabinet_archived.proofs.Written.{only_element}
use Rattle.cabinet_archived.proofs.writing.serialize_root.Goals as goal

pub serialize_one_each-requires-clause-takes : goal.serialize_one_each-requires-clause-takes
serialize_one_each-requires-clause-takes g c = λ x s element room state.
    let is = only_element _ x.now element in
    let table : IsTable (table_in x.now) = subst (λ (y : NodeIn). IsTable (table_in y)) (sym is) c.requires.table in
    let known : IsNumbered (table_in x.now) (node_tree (table_in x.now) x.now.node.now) = subst (λ (y : NodeIn). IsNumbered (table_in y) (node_tree (table_in y) y.node.now)) (sym is) c.requires.numbered in
    search (rules, table, known)
