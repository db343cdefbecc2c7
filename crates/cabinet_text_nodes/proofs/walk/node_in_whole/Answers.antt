use Rattle.std.proofs.Common.{◌∷◌, ap, sym, ◌∙◌, subst, Some, None, Bor}
use Rattle.cabinet_text_grammar.specs.Path.{inside, node_at}
use Rattle.cabinet_text_grammar.specs.Tree.{IsLegal}
use Rattle.cabinet_text_nodes.specs.View.{path_of}
use Rattle.cabinet_text_nodes.specs.declared.node.Node.{Node}
use Rattle.cabinet_text_nodes.proofs.Paths.{item_found}
use Rattle.cabinet_text_nodes.proofs.Entries.{inside_of, no_entry}
use Rattle.cabinet_text_nodes.proofs.walk.node_in_whole.Goals as goal

pub returns : goal.returns
returns c is legal =
    let there = item_found (λ n. n.now) c.args.wholes.now c.args.number (Some c.in_ok-get.field-0) c.in_ok-get.ensures.lookup in
    let whole = inside_of c.args.wholes.now c.args.number is legal in
    let whole_legal = subst IsLegal (sym (whole.entry c.in_ok-get.field-0.now (sym there))) whole.legal in
    c.node_at.ensures is whole_legal ∙ ap (λ t. node_at t (path_of c.args.path.now)) (whole.entry c.in_ok-get.field-0.now (sym there)) ∙ sym (ap (λ t. node_at t (inside ∷ path_of c.args.path.now)) whole.seen)

pub returns-in_err-get : goal.returns-in_err-get
returns-in_err-get c is legal =
    let there = item_found {R = Bor Node} (λ n. n.now) c.args.wholes.now c.args.number None c.in_err-get.ensures.lookup in
    absurd (no_entry c.args.wholes.now c.args.number is legal (sym there))
