use Rattle.std.proofs.Common.{ap, refl, sym, subst, ◌∙◌}
use Rattle.cabinet_text_grammar.specs.Keys.{ordered, hashed, kept}
use Rattle.cabinet_text_grammar.specs.Path.{key}
use Rattle.cabinet_text_grammar.specs.Tree.{list, map, IsLegal}
use Rattle.cabinet_text_nodes.specs.Restructures.{if_fits}
use Rattle.cabinet_text_grammar.specs.Restructuring.{put_step}
use Rattle.cabinet_text_nodes.specs.View.{node_tree, node_trees, node_pairs, table_of, step_of}
use Rattle.cabinet_text_nodes.specs.declared.node.Node.TheVariants as node_of
use Rattle.cabinet_text_nodes.proofs.RestructuresCounts.{option_here, list_here, ordered_here, hashed_here, kept_here}
use Rattle.cabinet_text_nodes.proofs.Restructures.{moved, stays_within}
use Rattle.cabinet_text_nodes.proofs.Views.{node_tree-list, node_tree-ordered, node_tree-hashed, node_tree-kept}
use Rattle.cabinet_text_nodes.proofs.restructuring.putting.put_step.Goals as goal

pub returns-in-Inside-clause-puts : goal.returns-in-Inside-clause-puts
unfolding Rattle.cabinet_text_nodes.specs.declared.node.Node.TheViews.out-Node denote.Hole.Carrier.out
returns-in-Inside-clause-puts c table legal =
    let t = table_of c.args.wholes.now in
    let new = node_tree t c.args.new in
    let same = ap (λ o. node_tree t (node_of.Maybe o)) (sym c.in-Maybe.content-is) in
    let option_legal = subst IsLegal same (subst (λ n. IsLegal (node_tree t n)) c.in-Maybe.is legal) in
    rw c.in-Maybe.is (moved (λ u s. if_fits c.args.fits (put_step u s new)) c.put_content.result same (ap step_of c.in-Inside.is) refl
    (c.put_content.ensures table option_legal))

pub returns-in-Place-clause-puts : goal.returns-in-Place-clause-puts
unfolding Rattle.cabinet_text_nodes.specs.declared.node.Node.TheViews.out-Node denote.Hole.Carrier.out
returns-in-Place-clause-puts c table legal =
    let t = table_of c.args.wholes.now in
    let new = node_tree t c.args.new in
    let same = node_tree-list t c.in-List.elements ∙ ap (λ v. list (node_trees t v.items)) (sym c.in-List.elements-is) in
    let list_legal = subst IsLegal same (subst (λ n. IsLegal (node_tree t n)) c.in-List.is legal) in
    rw c.in-List.is (moved (λ u s. if_fits c.args.fits (put_step u s new)) c.put_element.result same (ap step_of c.in-Place.is)
    (node_tree-list t c.put_element.new.elements)
    (stays_within list (λ _. c.args.fits) (λ _. c.args.fits) (_) c.put_element.result _ _ (λ u. refl) (c.put_element.ensures table list_legal.0)))

pub returns-in-Key-clause-puts : goal.returns-in-Key-clause-puts
unfolding Rattle.cabinet_text_nodes.specs.declared.node.Node.TheViews.out-Node denote.Hole.Carrier.out
returns-in-Key-clause-puts c table legal =
    let t = table_of c.args.wholes.now in
    let new = node_tree t c.args.new in
    let same = node_tree-ordered t c.in-Ordered.map ∙ ap (λ m. map ordered (node_pairs t m.entries)) (sym c.in-Ordered.map-is) in
    let map_legal = subst IsLegal same (subst (λ n. IsLegal (node_tree t n)) c.in-Ordered.is legal) in
    rw c.in-Ordered.is (moved (λ u s. if_fits c.args.fits (put_step u s new)) c.put_value.result same
    (ap step_of c.in-Key.is ∙ ap key (sym c.as_str.ensures.value)) (node_tree-ordered t c.put_value.new.map)
    (stays_within (map ordered) (λ _. c.args.fits) (λ _. c.args.fits) (_) c.put_value.result _ _ (λ u. refl)
    (c.put_value.ensures.puts ordered (λ e. cc) table map_legal.0)))

pub returns-in-Key-step-clause-puts : goal.returns-in-Key-step-clause-puts
unfolding Rattle.cabinet_text_nodes.specs.declared.node.Node.TheViews.out-Node denote.Hole.Carrier.out
returns-in-Key-step-clause-puts c table legal =
    let t = table_of c.args.wholes.now in
    let new = node_tree t c.args.new in
    let same = node_tree-hashed t c.in-Hashed.map ∙ ap (λ m. map hashed (node_pairs t m.entries)) (sym c.in-Hashed.map-is) in
    let map_legal = subst IsLegal same (subst (λ n. IsLegal (node_tree t n)) c.in-Hashed.is legal) in
    rw c.in-Hashed.is (moved (λ u s. if_fits c.args.fits (put_step u s new)) c.put_value-in-Key-step.result same
    (ap step_of c.in-Key-step.is ∙ ap key (sym c.as_str-in-Key-step.ensures.value)) (node_tree-hashed t c.put_value-in-Key-step.new.map)
    (stays_within (map hashed) (λ _. c.args.fits) (λ _. c.args.fits) (_) c.put_value-in-Key-step.result _ _ (λ u. refl)
    (c.put_value-in-Key-step.ensures.puts hashed (λ e. cc) table map_legal.0)))

pub returns-in-Key-step-2-clause-puts : goal.returns-in-Key-step-2-clause-puts
unfolding Rattle.cabinet_text_nodes.specs.declared.node.Node.TheViews.out-Node denote.Hole.Carrier.out
returns-in-Key-step-2-clause-puts c table legal =
    let t = table_of c.args.wholes.now in
    let new = node_tree t c.args.new in
    let same = node_tree-kept t c.in-Kept.pairs ∙ ap (λ m. map kept (node_pairs t m.items)) (sym c.in-Kept.pairs-is) in
    let map_legal = subst IsLegal same (subst (λ n. IsLegal (node_tree t n)) c.in-Kept.is legal) in
    rw c.in-Kept.is (moved (λ u s. if_fits c.args.fits (put_step u s new)) c.put_kept_value.result same
    (ap step_of c.in-Key-step-2.is ∙ ap key (sym c.as_str-in-Key-step-2.ensures.value)) (node_tree-kept t c.put_kept_value.new.pairs)
    (stays_within (map kept) (λ _. c.args.fits) (λ _. c.args.fits) (_) c.put_kept_value.result _ _ (λ u. refl)
    (c.put_kept_value.ensures table map_legal.0)))

pub returns-in-Inside-clause-counted : goal.returns-in-Inside-clause-counted
unfolding Rattle.cabinet_text_nodes.specs.declared.node.Node.TheViews.out-Node denote.Hole.Carrier.out
returns-in-Inside-clause-counted c table here = rw c.in-Maybe.is (option_here table c.put_content.new.content)

pub returns-in-Place-clause-counted : goal.returns-in-Place-clause-counted
unfolding Rattle.cabinet_text_nodes.specs.declared.node.Node.TheViews.out-Node denote.Hole.Carrier.out
returns-in-Place-clause-counted c table here = rw c.in-List.is (list_here table c.put_element.new.elements)

pub returns-in-Key-clause-counted : goal.returns-in-Key-clause-counted
unfolding Rattle.cabinet_text_nodes.specs.declared.node.Node.TheViews.out-Node denote.Hole.Carrier.out
returns-in-Key-clause-counted c table here = rw c.in-Ordered.is (ordered_here table c.put_value.new.map c.put_value.ensures.counted)

pub returns-in-Key-step-clause-counted : goal.returns-in-Key-step-clause-counted
unfolding Rattle.cabinet_text_nodes.specs.declared.node.Node.TheViews.out-Node denote.Hole.Carrier.out
returns-in-Key-step-clause-counted c table here =
    rw c.in-Hashed.is
    (hashed_here table c.put_value-in-Key-step.new.map c.put_value-in-Key-step.ensures.counted)

pub returns-in-Key-step-2-clause-counted : goal.returns-in-Key-step-2-clause-counted
unfolding Rattle.cabinet_text_nodes.specs.declared.node.Node.TheViews.out-Node denote.Hole.Carrier.out
returns-in-Key-step-2-clause-counted c table here = rw c.in-Kept.is (kept_here table c.put_kept_value.new.pairs)
