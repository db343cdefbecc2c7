use Rattle.std.proofs.Common.{[], ◌∷◌, ap, sym, ◌∙◌, refl, subst, ◌<◌, length, Some, None, MutBor}
use Rattle.cabinet_text_nodes.specs.declared.node.Node.{Node}
use Rattle.cabinet_text_grammar.specs.Keys.{ordered, hashed, kept}
use Rattle.cabinet_text_grammar.specs.Tree.{just, list, map, IsLegal}
use Rattle.cabinet_text_grammar.specs.Path.{key}
use Rattle.cabinet_text_nodes.specs.Answers.{place_by}
use Rattle.cabinet_text_nodes.specs.View.{lent_leaf, node_tree, node_trees, node_pairs, table_of, step_of, path_of}
use Rattle.std.specs.Box.{with_value}
use Rattle.cabinet_text_nodes.specs.declared.node.Node.TheVariants as node_of
use Rattle.cabinet_text_nodes.proofs.Views.{node_tree-some, node_tree-list, node_tree-ordered, node_tree-hashed, node_tree-kept}
use Rattle.cabinet_text_nodes.proofs.Paths.{no_items, item_found, legal_element, legal_pair, legal_value}
use Rattle.std.proofs.lemmas.Option.{slice_get-get_or}
use Rattle.cabinet_text_nodes.proofs.Changes.{sets-moved, sets_nothing, sets_inside, sets_element, sets_value, sets_no_element, sets_no_value, sets_kept_value, unplaced, place_same}
use Rattle.cabinet_text_nodes.proofs.change.+change.Goals as goal

pub change_at-returns-in-Ordered : goal.change_at-returns-in-Ordered
unfolding Rattle.cabinet_text_nodes.specs.declared.node.Node.TheViews.out-Node denote.Hole.Carrier.out
change_at-returns-in-Ordered t c table legal =
    let pairs_legal = subst IsLegal (node_tree-ordered (table_of c.args.wholes.now) c.in-Ordered.map ∙ ap (λ m. map ordered (node_pairs (table_of c.args.wholes.now) m.entries)) (sym c.in-Ordered.map-is)) (subst (λ n. IsLegal (node_tree (table_of c.args.wholes.now) n)) c.in-Ordered.is legal) in
    rw c.in-Ordered.is (sets-moved (node_tree-ordered (table_of c.args.wholes.now) c.in-Ordered.map ∙ ap (λ m. map ordered (node_pairs (table_of c.args.wholes.now) m.entries)) (sym c.in-Ordered.map-is)) (ap path_of c.in-Some.ensures.cases.0)
    (node_tree-ordered (table_of c.args.wholes.now) c.change_value.new.map) (c.change_value.ensures ordered table pairs_legal))

pub change_at-returns-in-Hashed : goal.change_at-returns-in-Hashed
unfolding Rattle.cabinet_text_nodes.specs.declared.node.Node.TheViews.out-Node denote.Hole.Carrier.out
change_at-returns-in-Hashed t c table legal =
    let pairs_legal = subst IsLegal (node_tree-hashed (table_of c.args.wholes.now) c.in-Hashed.map ∙ ap (λ m. map hashed (node_pairs (table_of c.args.wholes.now) m.entries)) (sym c.in-Hashed.map-is)) (subst (λ n. IsLegal (node_tree (table_of c.args.wholes.now) n)) c.in-Hashed.is legal) in
    rw c.in-Hashed.is (sets-moved (node_tree-hashed (table_of c.args.wholes.now) c.in-Hashed.map ∙ ap (λ m. map hashed (node_pairs (table_of c.args.wholes.now) m.entries)) (sym c.in-Hashed.map-is)) (ap path_of c.in-Some.ensures.cases.0)
    (node_tree-hashed (table_of c.args.wholes.now) c.change_value-in-Hashed.new.map) (c.change_value-in-Hashed.ensures hashed table pairs_legal))

pub change_at-returns-in-Kept : goal.change_at-returns-in-Kept
unfolding Rattle.cabinet_text_nodes.specs.declared.node.Node.TheViews.out-Node denote.Hole.Carrier.out
change_at-returns-in-Kept t c table legal =
    let pairs_legal = subst IsLegal (node_tree-kept (table_of c.args.wholes.now) c.in-Kept.pairs ∙ ap (λ m. map kept (node_pairs (table_of c.args.wholes.now) m.items)) (sym c.in-Kept.pairs-is)) (subst (λ n. IsLegal (node_tree (table_of c.args.wholes.now) n)) c.in-Kept.is legal) in
    rw c.in-Kept.is (sets-moved (node_tree-kept (table_of c.args.wholes.now) c.in-Kept.pairs ∙ ap (λ m. map kept (node_pairs (table_of c.args.wholes.now) m.items)) (sym c.in-Kept.pairs-is)) (ap path_of c.in-Some.ensures.cases.0)
    (node_tree-kept (table_of c.args.wholes.now) c.change_kept_value.new.pairs) (c.change_kept_value.ensures table pairs_legal))

pub change_element-returns-in-Some : goal.change_element-returns-in-Some
change_element-returns-in-Some t c table legal =
    let there = sym (item_found (λ (x : MutBor Node). x.now) c.args.elements.now.items c.in-Place.place (Some c.in-Some.element) c.in-Some.ensures.item) in
    sets-moved refl (ap (λ s. step_of s ∷ path_of c.args.rest.now) c.in-Place.is) refl
    (sets_element (table_of c.args.wholes.now) (path_of c.args.rest.now) (lent_leaf c.args.leaf) c.args.elements.now.items c.in-Place.place c.in-Some.element.now c.change_at.new.node there (c.change_at.ensures table (legal_element (table_of c.args.wholes.now) c.args.elements.now.items c.in-Place.place c.in-Some.element.now legal.0 there)))

pub change_element-returns-in-None : goal.change_element-returns-in-None
change_element-returns-in-None t c table legal =
    let none = sym (item_found (λ (x : MutBor Node). x.now) c.args.elements.now.items c.in-Place.place None c.in-None.ensures.item) in
    sets-moved refl (ap (λ s. step_of s ∷ path_of c.args.rest.now) c.in-Place.is) refl
    (sets_no_element (table_of c.args.wholes.now) (path_of c.args.rest.now) (lent_leaf c.args.leaf) c.args.elements.now.items c.in-Place.place none)

pub change_kept_value-returns-in-Some : goal.change_kept_value-returns-in-Some
change_kept_value-returns-in-Some t c table legal =
    let pairs = c.args.pairs.now.items in
    let within = subst (λ ps. c.in-Some.place < length ps) c.deref.ensures.value c.in-Some.ensures.within in
    let there = slice_get-get_or pairs c.in-Some.place c.index_mut.result.now within ∙ ap Some (sym c.index_mut.ensures.value) in
    sets-moved refl (ap (λ s. s ∷ path_of c.args.rest.now) (ap step_of c.in-Key.is ∙ ap key (sym c.as_str.ensures.value))) refl
    (sets_kept_value (table_of c.args.wholes.now) (path_of c.args.rest.now) (lent_leaf c.args.leaf) pairs c.as_str.result.now c.in-Some.place c.index_mut.result.now c.change_at.new.node
    (c.in-Some.ensures.place ∙ ap (λ ps. place_by (node_pairs [] ps) c.as_str.result.now) c.deref.ensures.value ∙ place_same [] (table_of c.args.wholes.now) pairs c.as_str.result.now)
    within c.index_mut.ensures.value (c.change_at.ensures table (legal_pair (table_of c.args.wholes.now) kept [] pairs c.in-Some.place c.index_mut.result.now legal.0 there)))

pub change_kept_value-returns-in-None : goal.change_kept_value-returns-in-None
change_kept_value-returns-in-None t c table legal =
    let pairs = c.args.pairs.now.items in
    sets-moved refl (ap (λ s. s ∷ path_of c.args.rest.now) (ap step_of c.in-Key.is ∙ ap key (sym c.as_str.ensures.value))) refl
    (sets_nothing (map kept (node_pairs (table_of c.args.wholes.now) pairs)) (key c.as_str.result.now ∷ path_of c.args.rest.now) (lent_leaf c.args.leaf)
    (unplaced (node_pairs (table_of c.args.wholes.now) pairs) c.as_str.result.now (path_of c.args.rest.now)
    (sym (c.in-None.ensures.place ∙ ap (λ ps. place_by (node_pairs [] ps) c.as_str.result.now) c.deref.ensures.value ∙ place_same [] (table_of c.args.wholes.now) pairs c.as_str.result.now))))

pub change_value-returns-in-Some : goal.change_value-returns-in-Some
change_value-returns-in-Some t c kind table legal =
    sets-moved refl (ap (λ s. s ∷ path_of c.args.rest.now) (ap step_of c.in-Key.is ∙ ap key (sym c.as_str.ensures.value)))
    (ap (λ es. map kind (node_pairs (table_of c.args.wholes.now) es)) (c.get_mut.follows.holds c.change_at.new.node).0)
    (sets_value (table_of c.args.wholes.now) (path_of c.args.rest.now) (lent_leaf c.args.leaf) kind c.args.map.now.entries c.as_str.result.now c.in-Some.value.now c.change_at.new.node (sym c.in-Some.ensures.value) (c.change_at.ensures table (legal_value (table_of c.args.wholes.now) kind c.args.map.now.entries c.as_str.result.now c.in-Some.value.now legal.0 (sym c.in-Some.ensures.value))))

pub change_value-returns-in-None : goal.change_value-returns-in-None
change_value-returns-in-None t c kind table legal =
    sets-moved refl (ap (λ s. s ∷ path_of c.args.rest.now) (ap step_of c.in-Key.is ∙ ap key (sym c.as_str.ensures.value)))
    (ap (λ m. map kind (node_pairs (table_of c.args.wholes.now) m.entries)) c.get_mut.follows.holds-at-none)
    (sets_no_value (table_of c.args.wholes.now) (path_of c.args.rest.now) (lent_leaf c.args.leaf) kind c.args.map.now.entries c.as_str.result.now (sym c.in-None.ensures.value))

pub change_inside-returns : goal.change_inside-returns
change_inside-returns t c table legal =
    let here = ap (λ o. node_tree (table_of c.args.wholes.now) (node_of.Maybe o)) c.in-Some.is ∙ node_tree-some (table_of c.args.wholes.now) c.in-Some.content ∙ ap (λ n. just (node_tree (table_of c.args.wholes.now) n)) (sym c.deref_mut.ensures.value) in
    sets-moved here
    (ap (λ s. step_of s ∷ path_of c.args.rest.now) c.in-Inside.is) (node_tree-some (table_of c.args.wholes.now) (with_value c.in-Some.content c.change_at.new.node))
    (sets_inside (table_of c.args.wholes.now) (path_of c.args.rest.now) (lent_leaf c.args.leaf) (c.change_at.ensures table (subst IsLegal here legal)))

pub change_at-returns-in_default : goal.change_at-returns-in_default
change_at-returns-in_default t c table legal = sets-moved refl (ap path_of (no_items c.args.path.now c.in_default.ensures.cases)) refl (c.put_leaf.ensures (table_of c.args.wholes.now))

pub change_at-returns-in-Whole : goal.change_at-returns-in-Whole
unfolding Rattle.cabinet_text_nodes.specs.declared.node.Node.TheViews.out-Node denote.Hole.Carrier.out
change_at-returns-in-Whole t c table legal =
    let same = ap (λ n. node_tree (table_of c.args.wholes.now) (node_of.Whole n)) (sym c.in-Whole.number-is) in
    let whole_legal = subst IsLegal same (subst (λ n. IsLegal (node_tree (table_of c.args.wholes.now) n)) c.in-Whole.is legal) in
    rw c.in-Whole.is (sets-moved same (ap path_of c.in-Some.ensures.cases.0) same (c.refuse_in_whole.ensures table whole_legal (lent_leaf c.args.leaf)))

pub change_at-returns-in-Maybe : goal.change_at-returns-in-Maybe
unfolding Rattle.cabinet_text_nodes.specs.declared.node.Node.TheViews.out-Node denote.Hole.Carrier.out
change_at-returns-in-Maybe t c table legal =
    let same = ap (λ o. node_tree (table_of c.args.wholes.now) (node_of.Maybe o)) (sym c.in-Maybe.content-is) in
    let option_legal = subst IsLegal same (subst (λ n. IsLegal (node_tree (table_of c.args.wholes.now) n)) c.in-Maybe.is legal) in
    rw c.in-Maybe.is (sets-moved same (ap path_of c.in-Some.ensures.cases.0) refl (c.change_inside.ensures table option_legal))

pub change_at-returns-in-List : goal.change_at-returns-in-List
unfolding Rattle.cabinet_text_nodes.specs.declared.node.Node.TheViews.out-Node denote.Hole.Carrier.out
change_at-returns-in-List t c table legal =
    let same = node_tree-list (table_of c.args.wholes.now) c.in-List.elements ∙ ap (λ v. list (node_trees (table_of c.args.wholes.now) v.items)) (sym c.in-List.elements-is) in
    let list_legal = subst IsLegal same (subst (λ n. IsLegal (node_tree (table_of c.args.wholes.now) n)) c.in-List.is legal) in
    rw c.in-List.is (sets-moved same (ap path_of c.in-Some.ensures.cases.0) (node_tree-list (table_of c.args.wholes.now) c.change_element.new.elements) (c.change_element.ensures table list_legal))
