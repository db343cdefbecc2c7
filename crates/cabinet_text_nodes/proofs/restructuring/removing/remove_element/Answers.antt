use Rattle.std.proofs.Common.{refl, sym, ap, ◌∙◌, Some, None, Bor}
use Rattle.std.specs.List.{remove}
use Rattle.std.specs.Prelude.{slice_get}
use Rattle.std.proofs.lemmas.Bool.{false≢true}
use Rattle.cabinet_text_grammar.specs.Wholes.{wholes_of}
use Rattle.cabinet_text_nodes.specs.View.{node_tree, node_trees, table_of}
use Rattle.cabinet_text_nodes.specs.declared.node.Node.{Node}
use Rattle.cabinet_text_nodes.proofs.Paths.{item_found, legal_element}
use Rattle.cabinet_text_nodes.proofs.Restructures.{given_up, not_given_up, remove_element-there, remove_element-past}
use Rattle.cabinet_text_nodes.proofs.restructuring.removing.remove_element.Goals as goal

pub returns-in-None : goal.returns-in-None
returns-in-None c table legal =
    let ns = c.args.elements.now.items in
    let past = ap (λ xs. slice_get xs c.args.place) (sym c.deref.ensures.value)
    ∙ sym (item_found (λ (x : Bor Node). x.now) c.deref.result.now c.args.place None c.in-None.ensures.lookup) in
    rw (remove_element-past (table_of c.args.wholes.now) ns c.args.place past) refl

pub returns-in-Some : goal.returns-in-Some
returns-in-Some c table legal =
    let t = table_of c.args.wholes.now in
    let ns = c.args.elements.now.items in
    let node = c.in-Some.node.now in
    let there = ap (λ xs. slice_get xs c.args.place) (sym c.deref.ensures.value)
    ∙ sym (item_found (λ (x : Bor Node). x.now) c.deref.result.now c.args.place (Some c.in-Some.node) c.in-Some.ensures.lookup) in
    let tells = c.has_no_whole.ensures table (legal_element t ns c.args.place node legal there) in
    rw (
      remove_element-there t ns c.args.place node there,
      not_given_up (wholes_of (node_tree t node)) (node_trees t (remove ns c.args.place))
          (λ none. false≢true (sym c.if-not-has_no_whole.true ∙ tells.1 none)),
    ) refl

pub returns-in-Some-2 : goal.returns-in-Some-2
returns-in-Some-2 c table legal =
    let t = table_of c.args.wholes.now in
    let ns = c.args.elements.now.items in
    let node = c.in-Some.node.now in
    let there = ap (λ xs. slice_get xs c.args.place) (sym c.deref.ensures.value)
    ∙ sym (item_found (λ (x : Bor Node). x.now) c.deref.result.now c.args.place (Some c.in-Some.node) c.in-Some.ensures.lookup) in
    let tells = c.has_no_whole.ensures table (legal_element t ns c.args.place node legal there) in
    rw (
      remove_element-there t ns c.args.place node there,
      c.remove-removed.ensures.items,
      given_up (wholes_of (node_tree t node)) (node_trees t (remove ns c.args.place)) (tells.0 c.if-not-has_no_whole.false),
    ) refl
