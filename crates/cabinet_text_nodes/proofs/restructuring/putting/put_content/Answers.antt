use Rattle.std.proofs.Common.{refl, sym, ap, ◌∙◌, subst}
use Rattle.std.specs.Box.{with_value}
use Rattle.cabinet_text_grammar.specs.Tree.{just, IsLegal}
use Rattle.cabinet_text_grammar.specs.Restructuring.{in_place_of}
use Rattle.cabinet_text_nodes.specs.View.{node_tree, table_of}
use Rattle.cabinet_text_nodes.specs.declared.node.Node.TheVariants as node_of
use Rattle.cabinet_text_nodes.proofs.Restructures.{becomes_within}
use Rattle.cabinet_text_nodes.proofs.Views.{node_tree-none, node_tree-some}
use Rattle.cabinet_text_nodes.proofs.restructuring.putting.put_content.Goals as goal

pub returns : goal.returns
returns c table legal =
    let t = table_of c.args.wholes.now in
    rw (c.if-not-fits.false, c.in_default.is, node_tree-none t, node_tree-some t c.in_ok-new.field-0, c.in_ok-new.ensures.ok) refl

pub returns-in-Some : goal.returns-in-Some
returns-in-Some c table legal =
    let t = table_of c.args.wholes.now in
    let here = ap (λ o. node_tree t (node_of.Maybe o)) c.in-Some.is ∙ node_tree-some t c.in-Some.node
    ∙ ap (λ n. just (node_tree t n)) (sym c.deref_mut.ensures.value) in
    rw (here, node_tree-some t (with_value c.in-Some.node c.replace.new.node))
    (becomes_within just (λ _. c.args.fits) (λ _. c.args.fits) (in_place_of (node_tree t c.deref_mut.result.now) (node_tree t c.args.new))
    c.replace.result _ _ (λ u. refl)
    (c.replace.ensures table (subst IsLegal here legal)))
