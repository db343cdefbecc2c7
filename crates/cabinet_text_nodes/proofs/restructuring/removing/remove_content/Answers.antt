use Rattle.std.proofs.Common.{refl, sym, ap, ◌∙◌, subst}
use Rattle.std.proofs.lemmas.Bool.{false≢true}
use Rattle.cabinet_text_grammar.specs.Tree.{nothing, just, IsLegal}
use Rattle.cabinet_text_grammar.specs.Wholes.{wholes_of}
use Rattle.cabinet_text_nodes.specs.View.{node_tree, table_of}
use Rattle.cabinet_text_nodes.specs.declared.node.Node.TheVariants as node_of
use Rattle.cabinet_text_nodes.proofs.Restructures.{given_up, not_given_up}
use Rattle.cabinet_text_nodes.proofs.Views.{node_tree-none, node_tree-some}
use Rattle.cabinet_text_nodes.proofs.restructuring.removing.remove_content.Goals as goal

pub returns-in-None : goal.returns-in-None
returns-in-None c table legal = rw (c.in-None.is, node_tree-none (table_of c.args.wholes.now)) refl

pub returns-in-Some : goal.returns-in-Some
returns-in-Some c table legal =
    let t = table_of c.args.wholes.now in
    let here = ap (λ o. node_tree t (node_of.Maybe o)) c.in-Some.is in
    let content = node_tree-some t c.in-Some.node ∙ ap (λ n. just (node_tree t n)) (sym c.deref.ensures) in
    let tells = c.has_no_whole.ensures table (subst IsLegal (here ∙ content) legal) in
    rw (
      here,
      content,
      not_given_up (wholes_of (node_tree t c.deref.result.now)) nothing
          (λ none. false≢true (sym c.if-not-has_no_whole.true ∙ tells.1 none)),
    ) refl

pub returns-in-Some-2 : goal.returns-in-Some-2
returns-in-Some-2 c table legal =
    let t = table_of c.args.wholes.now in
    let here = ap (λ o. node_tree t (node_of.Maybe o)) c.in-Some.is in
    let content = node_tree-some t c.in-Some.node ∙ ap (λ n. just (node_tree t n)) (sym c.deref.ensures) in
    let tells = c.has_no_whole.ensures table (subst IsLegal (here ∙ content) legal) in
    rw (here, content, node_tree-none t, given_up (wholes_of (node_tree t c.deref.result.now)) nothing (tells.0 c.if-not-has_no_whole.false)) refl
