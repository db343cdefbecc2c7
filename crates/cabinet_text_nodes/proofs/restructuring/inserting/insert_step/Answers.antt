use Rattle.std.proofs.Common.{ap, refl, sym, ◌∙◌}
use Rattle.cabinet_text_grammar.specs.Tree.{list}
use Rattle.cabinet_text_nodes.specs.Restructures.{if_fits}
use Rattle.cabinet_text_grammar.specs.Restructuring.{insert_step}
use Rattle.cabinet_text_nodes.specs.View.{node_tree, node_trees, step_of}
use Rattle.cabinet_text_nodes.proofs.RestructuresCounts.{list_here}
use Rattle.cabinet_text_nodes.proofs.Restructures.{moved, stays_within}
use Rattle.cabinet_text_nodes.proofs.Views.{node_tree-list}
use Rattle.cabinet_text_nodes.proofs.restructuring.inserting.insert_step.Goals as goal

pub returns-in-Place-clause-inserts : goal.returns-in-Place-clause-inserts
unfolding Rattle.cabinet_text_nodes.specs.declared.node.Node.TheViews.out-Node denote.Hole.Carrier.out
returns-in-Place-clause-inserts c table =
    let new = node_tree table c.args.new in
    let same = node_tree-list table c.in-List.elements ∙ ap (λ v. list (node_trees table v.items)) (sym c.in-List.elements-is) in
    rw c.in-List.is (moved (λ t s. if_fits c.args.fits (insert_step t s new)) c.insert_element.result same (ap step_of c.in-Place.is)
    (node_tree-list table c.insert_element.new.elements)
    (stays_within list (λ _. c.args.fits) (λ _. c.args.fits) _ c.insert_element.result _ _ (λ u. refl) (c.insert_element.ensures table)))

pub returns-in-Place-clause-counted : goal.returns-in-Place-clause-counted
unfolding Rattle.cabinet_text_nodes.specs.declared.node.Node.TheViews.out-Node denote.Hole.Carrier.out
returns-in-Place-clause-counted c table here = rw c.in-List.is (list_here table c.insert_element.new.elements)
