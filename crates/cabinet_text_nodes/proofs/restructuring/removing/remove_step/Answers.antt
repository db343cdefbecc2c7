use Rattle.std.proofs.Common.{Ok, ap, refl, sym, subst, ◌∙◌}
use Rattle.cabinet_text_grammar.specs.Keys.{ordered, hashed, kept}
use Rattle.cabinet_text_grammar.specs.Path.{key}
use Rattle.cabinet_text_grammar.specs.Tree.{list, map, IsLegal}
use Rattle.cabinet_text_grammar.specs.Restructuring.{remove_step}
use Rattle.cabinet_text_nodes.specs.View.{node_tree, node_trees, node_pairs, table_of, step_of}
use Rattle.cabinet_text_nodes.specs.declared.node.Node.TheVariants as node_of
use Rattle.cabinet_text_nodes.proofs.Restructures.{moved, done_within}
use Rattle.cabinet_text_nodes.proofs.Views.{node_tree-list, node_tree-ordered, node_tree-hashed, node_tree-kept}
use Rattle.cabinet_text_nodes.proofs.restructuring.removing.remove_step.Goals as goal

pub returns-in-Inside : goal.returns-in-Inside
unfolding Rattle.cabinet_text_nodes.specs.declared.node.Node.TheViews.out-Node denote.Hole.Carrier.out
returns-in-Inside c table legal =
    let t = table_of c.args.wholes.now in
    let same = ap (λ o. node_tree t (node_of.Maybe o)) (sym c.in-Maybe.content-is) in
    let option_legal = subst IsLegal same (subst (λ n. IsLegal (node_tree t n)) c.in-Maybe.is legal) in
    rw c.in-Maybe.is (moved remove_step (Ok c.remove_content.result) same (ap step_of c.in-Inside.is) refl
    (c.remove_content.ensures table option_legal))

pub returns-in-Place : goal.returns-in-Place
unfolding Rattle.cabinet_text_nodes.specs.declared.node.Node.TheViews.out-Node denote.Hole.Carrier.out
returns-in-Place c table legal =
    let t = table_of c.args.wholes.now in
    let same = node_tree-list t c.in-List.elements ∙ ap (λ v. list (node_trees t v.items)) (sym c.in-List.elements-is) in
    let list_legal = subst IsLegal same (subst (λ n. IsLegal (node_tree t n)) c.in-List.is legal) in
    rw c.in-List.is (moved remove_step (Ok c.remove_element.result) same (ap step_of c.in-Place.is) (node_tree-list t c.remove_element.new.elements)
    (done_within list (_) c.remove_element.result _ _ (c.remove_element.ensures table list_legal.0)))

pub returns-in-Key : goal.returns-in-Key
unfolding Rattle.cabinet_text_nodes.specs.declared.node.Node.TheViews.out-Node denote.Hole.Carrier.out
returns-in-Key c table legal =
    let t = table_of c.args.wholes.now in
    let same = node_tree-ordered t c.in-Ordered.map ∙ ap (λ m. map ordered (node_pairs t m.entries)) (sym c.in-Ordered.map-is) in
    let map_legal = subst IsLegal same (subst (λ n. IsLegal (node_tree t n)) c.in-Ordered.is legal) in
    rw c.in-Ordered.is (moved remove_step (Ok c.remove_value.result) same (ap step_of c.in-Key.is ∙ ap key (sym c.as_str.ensures.value))
    (node_tree-ordered t c.remove_value.new.map)
    (done_within (map ordered) (_) c.remove_value.result _ _ (c.remove_value.ensures ordered (λ e. cc) table map_legal.0)))

pub returns-in-Key-step : goal.returns-in-Key-step
unfolding Rattle.cabinet_text_nodes.specs.declared.node.Node.TheViews.out-Node denote.Hole.Carrier.out
returns-in-Key-step c table legal =
    let t = table_of c.args.wholes.now in
    let same = node_tree-hashed t c.in-Hashed.map ∙ ap (λ m. map hashed (node_pairs t m.entries)) (sym c.in-Hashed.map-is) in
    let map_legal = subst IsLegal same (subst (λ n. IsLegal (node_tree t n)) c.in-Hashed.is legal) in
    rw c.in-Hashed.is (moved remove_step (Ok c.remove_value-in-Key-step.result) same
    (ap step_of c.in-Key-step.is ∙ ap key (sym c.as_str-in-Key-step.ensures.value)) (node_tree-hashed t c.remove_value-in-Key-step.new.map)
    (done_within (map hashed) (_) c.remove_value-in-Key-step.result _ _ (c.remove_value-in-Key-step.ensures hashed (λ e. cc) table map_legal.0)))

pub returns-in-Key-step-2 : goal.returns-in-Key-step-2
unfolding Rattle.cabinet_text_nodes.specs.declared.node.Node.TheViews.out-Node denote.Hole.Carrier.out
returns-in-Key-step-2 c table legal =
    let t = table_of c.args.wholes.now in
    let same = node_tree-kept t c.in-Kept.pairs ∙ ap (λ m. map kept (node_pairs t m.items)) (sym c.in-Kept.pairs-is) in
    let map_legal = subst IsLegal same (subst (λ n. IsLegal (node_tree t n)) c.in-Kept.is legal) in
    rw c.in-Kept.is (moved remove_step (Ok c.remove_kept_value.result) same
    (ap step_of c.in-Key-step-2.is ∙ ap key (sym c.as_str-in-Key-step-2.ensures.value)) (node_tree-kept t c.remove_kept_value.new.pairs)
    (done_within (map kept) (_) c.remove_kept_value.result _ _ (c.remove_kept_value.ensures table map_legal.0)))
