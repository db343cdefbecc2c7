use Rattle.std.proofs.Common.{ap, sym, [], ◌∷◌, ◌∙◌}
use Rattle.cabinet_text_grammar.specs.Path as grammar
use Rattle.cabinet_text_grammar.specs.Keys.{ordered, hashed}
use Rattle.cabinet_text_nodes.specs.View.{node_tree, table_of, step_of}
use Rattle.cabinet_text_nodes.proofs.Views.{node_tree-list, node_tree-ordered, node_tree-hashed, node_tree-kept}
use Rattle.cabinet_text_nodes.proofs.Paths.{item_found, element_at, value_at, kept_value_at}
use Rattle.cabinet_text_nodes.proofs.Entries.{whole_behind}
use Rattle.cabinet_text_nodes.proofs.walk.node_behind.Goals as goal

pub returns-in-List-Place : goal.returns-in-List-Place
returns-in-List-Place c is legal =
    element_at (table_of c.args.wholes.now) c.in-List-Place.elements.items c.in-List-Place.place c.get.result
    (ap (node_tree (table_of c.args.wholes.now)) c.in-List-Place.is-0 ∙ node_tree-list (table_of c.args.wholes.now) c.in-List-Place.elements) (ap step_of c.in-List-Place.is-1)
    (item_found (λ n. n.now) c.in-List-Place.elements.items c.in-List-Place.place c.get.result (rw (← c.deref-in-List-Place.ensures.value) c.get.ensures.lookup))

pub returns-in-Ordered-Key : goal.returns-in-Ordered-Key
returns-in-Ordered-Key c is legal =
    value_at (table_of c.args.wholes.now) ordered c.in-Ordered-Key.map.entries c.as_str.result.now c.get-in-Ordered-Key.result
    (ap (node_tree (table_of c.args.wholes.now)) c.in-Ordered-Key.is-0 ∙ node_tree-ordered (table_of c.args.wholes.now) c.in-Ordered-Key.map) (cc (ap step_of c.in-Ordered-Key.is-1))
    c.get-in-Ordered-Key.ensures.value

pub returns-in-Hashed-Key : goal.returns-in-Hashed-Key
returns-in-Hashed-Key c is legal =
    value_at (table_of c.args.wholes.now) hashed c.in-Hashed-Key.map.entries c.as_str-in-Hashed-Key.result.now c.get-in-Hashed-Key.result
    (ap (node_tree (table_of c.args.wholes.now)) c.in-Hashed-Key.is-0 ∙ node_tree-hashed (table_of c.args.wholes.now) c.in-Hashed-Key.map) (cc (ap step_of c.in-Hashed-Key.is-1))
    c.get-in-Hashed-Key.ensures.value

pub returns-in-Kept-Key : goal.returns-in-Kept-Key
returns-in-Kept-Key c is legal =
    kept_value_at (table_of c.args.wholes.now) c.in-Kept-Key.pairs.items c.as_str-in-Kept-Key.result.now c.node_by.result
    (ap (node_tree (table_of c.args.wholes.now)) c.in-Kept-Key.is-0 ∙ node_tree-kept (table_of c.args.wholes.now) c.in-Kept-Key.pairs) (cc (ap step_of c.in-Kept-Key.is-1))
    (rw (← c.deref-in-Kept-Key.ensures.value) (c.node_by.ensures (table_of c.args.wholes.now)))

pub returns-in-Whole-Inside : goal.returns-in-Whole-Inside
returns-in-Whole-Inside c is legal =
    whole_behind c.args.wholes.now c.in-Whole-Inside.number c.args.node.now c.get-in-Whole-Inside.result c.in-Whole-Inside.is-0 is legal
    (item_found (λ n. n.now) c.args.wholes.now c.in-Whole-Inside.number c.get-in-Whole-Inside.result c.get-in-Whole-Inside.ensures.lookup)
    ∙ ap (λ s. grammar.node_at (node_tree (table_of c.args.wholes.now) c.args.node.now) (s ∷ [])) (sym (ap step_of c.in-Whole-Inside.is-1))
