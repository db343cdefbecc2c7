use Rattle.std.proofs.Common.{◌∷◌, ap, sym, ◌∙◌, refl}
use Rattle.std.specs.Option.{option_map}
use Rattle.cabinet_text_grammar.specs.Path.{inside, node_at}
use Rattle.cabinet_text_nodes.specs.View.{node_tree, table_of, step_of, path_of}
use Rattle.cabinet_text_nodes.specs.declared.node.Node.TheVariants as node_of
use Rattle.cabinet_text_nodes.proofs.Changes.{sets-moved, sets_nothing, sets_in_whole}
use Rattle.cabinet_text_nodes.proofs.Entries.{inside_of}
use Rattle.cabinet_text_nodes.proofs.change.refuse_in_whole.Goals as goal

pub returns-in-Some : goal.returns-in-Some
returns-in-Some c is legal l =
    let table = table_of c.args.wholes.now in
    let whole = inside_of c.args.wholes.now c.args.number is legal in
    let rest = path_of c.args.rest.now in
    let there = ap (λ t. node_at t (inside ∷ rest)) (sym whole.seen) ∙ sym (c.node_in_whole.ensures is legal) ∙ ap (option_map (λ n. node_tree table n.now)) c.in-Some.is in
    sets-moved whole.seen (ap (λ s. step_of s ∷ rest) c.in-Inside.is) whole.seen (sets_in_whole whole.tree_in (node_tree table c.in-Some.field-0.now) rest l there)

pub returns-in-None : goal.returns-in-None
returns-in-None c is legal l =
    let table = table_of c.args.wholes.now in
    let rest = path_of c.args.rest.now in
    sets-moved refl (ap (λ s. step_of s ∷ rest) c.in-Inside.is) refl
    (sets_nothing (node_tree table (node_of.Whole c.args.number)) (inside ∷ rest) l (sym (c.node_in_whole.ensures is legal) ∙ ap (option_map (λ n. node_tree table n.now)) c.in-None.is))
