use Rattle.std.proofs.Common.{◌+◌, ◌≤◌, ◌<◌, [], ◌∷◌, length, ap, sym, ◌∙◌, refl, subst, arith, Some, None, MutBor}
use Rattle.std.specs.Box.{with_value}
use Rattle.std.proofs.lemmas.Option.{slice_get-get_or}
use Rattle.cabinet_text_grammar.specs.Keys.{ordered, hashed, kept}
use Rattle.cabinet_text_grammar.specs.Tree.{just, list, map, IsLegal, depth, most_depth, pairs_depth}
use Rattle.cabinet_text_nodes.specs.Answers.{place_by}
use Rattle.cabinet_text_grammar.specs.RestructuringLaws.{IsCounted}
use Rattle.cabinet_text_nodes.specs.Restructures.{edit_of, limited}
use Rattle.cabinet_text_grammar.specs.Restructuring.{at_last}
use Rattle.cabinet_text_nodes.specs.View.{node_tree, node_trees, node_pairs, table_of, step_of, path_of}
use Rattle.cabinet_text_nodes.specs.declared.node.Node.{Node}
use Rattle.cabinet_text_nodes.specs.declared.node.Node.TheVariants as node_of
use Rattle.cabinet_text_nodes.proofs.Changes.{placed, place_same}
use Rattle.cabinet_text_nodes.proofs.Paths.{is_key, no_items, item_found, legal_element, legal_pair, legal_value}
use Rattle.cabinet_text_nodes.proofs.Restructures.{moved}
use Rattle.cabinet_text_nodes.proofs.RestructuresCounts.{legal_counted, list_counted, map_counted}
use Rattle.cabinet_text_nodes.proofs.RestructuresPairs.{not_found}
use Rattle.cabinet_text_nodes.proofs.RestructuresPaths.{one_more, edits_inside, edits_element, edits_value, no_element, no_value, depth_element, depth_value}
use Rattle.cabinet_text_nodes.proofs.Views.{node_tree-some, node_tree-list, node_tree-ordered, node_tree-hashed, node_tree-kept}
use Rattle.cabinet_text_nodes.proofs.restructuring.walking.+edits.Goals as goal

pub edit_content-returns-clause-edits : goal.edit_content-returns-clause-edits
edit_content-returns-clause-edits t c table legal shallow new =
    let w = table_of c.args.wholes.now in
    let old = node_tree w c.deref_mut.result.now in
    let here = ap (λ o. node_tree w (node_of.Maybe o)) c.in-Some.is ∙ node_tree-some w c.in-Some.content
    ∙ ap (λ n. just (node_tree w n)) (sym c.deref_mut.ensures.value) in
    let limit : c.args.outer + depth (just old) ≤ 64 = subst (λ u. c.args.outer + depth u ≤ 64) here shallow in
    let inner = one_more c.args.outer c.saturating_add.result (depth old) c.saturating_add.ensures limit in
    moved (λ u s. limited c.args.outer (at_last (edit_of w c.args.edit) u s (step_of c.args.next.now ∷ path_of c.args.rest.now))) c.edit_at.result
    here (ap step_of c.in-Inside.is) (node_tree-some w (with_value c.in-Some.content c.edit_at.new.node))
    (edits_inside w (edit_of w c.args.edit) c.args.outer c.saturating_add.result (step_of c.args.next.now) (path_of c.args.rest.now)
    c.edit_at.result old (node_tree w c.edit_at.new.node) inner
    (c.edit_at.ensures.edits table (subst IsLegal here legal) (omega (arith, inner, limit)) new))

pub edit_element-returns-in-Some-clause-edits : goal.edit_element-returns-in-Some-clause-edits
edit_element-returns-in-Some-clause-edits t c table legal shallow new =
    let w = table_of c.args.wholes.now in
    let ns = c.args.elements.now.items in
    let old = c.in-Some.element.now in
    let there = sym (item_found (λ (x : MutBor Node). x.now) ns c.in-Place.place (Some c.in-Some.element) c.in-Some.ensures.item) in
    let inner = one_more c.args.outer c.saturating_add.result (most_depth (node_trees w ns)) c.saturating_add.ensures shallow in
    rw c.in-Place.is
    (edits_element w (edit_of w c.args.edit) c.args.outer c.saturating_add.result (step_of c.args.next.now) (path_of c.args.rest.now) ns
    c.in-Place.place c.edit_at.result old c.edit_at.new.node there shallow inner
    (c.edit_at.ensures.edits table (legal_element w ns c.in-Place.place old legal.0 there)
    (omega (arith, inner, shallow, depth_element w ns c.in-Place.place old there)) new))

pub edit_element-returns-in-None-clause-edits : goal.edit_element-returns-in-None-clause-edits
edit_element-returns-in-None-clause-edits t c table legal shallow new =
    let w = table_of c.args.wholes.now in
    let none = sym (item_found (λ (x : MutBor Node). x.now) c.args.elements.now.items c.in-Place.place None c.in-None.ensures.item) in
    rw (
      c.in-Place.is,
      no_element w (edit_of w c.args.edit) c.args.outer c.args.outer (step_of c.args.next.now) (path_of c.args.rest.now)
          c.args.elements.now.items c.in-Place.place none,
    ) refl

pub edit_value-returns-in-Some-clause-edits : goal.edit_value-returns-in-Some-clause-edits
edit_value-returns-in-Some-clause-edits t c kind table legal shallow new =
    let w = table_of c.args.wholes.now in
    let ps = c.args.map.now.entries in
    let k = c.as_str.result.now in
    let old = c.in-Some.value.now in
    let there = sym c.in-Some.ensures.value in
    let inner = one_more c.args.outer c.saturating_add.result (pairs_depth (node_pairs w ps)) c.saturating_add.ensures shallow in
    rw (c.in-Key.is, sym c.as_str.ensures.value, (c.get_mut.follows.holds c.edit_at.new.node).0)
    (edits_value w (edit_of w c.args.edit) c.args.outer c.saturating_add.result (step_of c.args.next.now) (path_of c.args.rest.now) kind ps k
    c.edit_at.result old c.edit_at.new.node there shallow inner
    (c.edit_at.ensures.edits table (legal_value w kind ps k old legal.0 there) (omega (arith, inner, shallow, depth_value w ps k old there)) new))

pub edit_value-returns-in-None-clause-edits : goal.edit_value-returns-in-None-clause-edits
edit_value-returns-in-None-clause-edits t c kind table legal shallow new =
    let w = table_of c.args.wholes.now in
    rw (
      c.in-Key.is,
      sym c.as_str.ensures.value,
      no_value w (edit_of w c.args.edit) c.args.outer c.args.outer (step_of c.args.next.now)
          (path_of c.args.rest.now) c.args.map.now.entries c.as_str.result.now (sym c.in-None.ensures.value),
      c.get_mut.follows.holds-at-none,
    ) refl

pub edit_kept_value-returns-in-Some-clause-edits : goal.edit_kept_value-returns-in-Some-clause-edits
edit_kept_value-returns-in-Some-clause-edits t c table legal shallow new =
    let w = table_of c.args.wholes.now in
    let ps = c.args.pairs.now.items in
    let k = c.as_str.result.now in
    let within = subst (λ qs. c.in-Some.place < length qs) c.deref.ensures.value c.in-Some.ensures.within in
    let p = c.index_mut.result.now in
    let there = slice_get-get_or ps c.in-Some.place p within ∙ ap Some (sym c.index_mut.ensures.value) in
    let at = sym (c.in-Some.ensures.place ∙ ap (λ qs. place_by (node_pairs [] qs) k) c.deref.ensures.value ∙ place_same [] w ps k) in
    let found = placed w ps k c.in-Some.place p at there in
    let inner = one_more c.args.outer c.saturating_add.result (pairs_depth (node_pairs w ps)) c.saturating_add.ensures shallow in
    rw (c.in-Key.is, sym c.as_str.ensures.value, found.put c.edit_at.new.node)
    (edits_value w (edit_of w c.args.edit) c.args.outer c.saturating_add.result (step_of c.args.next.now) (path_of c.args.rest.now) kept ps k
    c.edit_at.result p.1 c.edit_at.new.node found.found shallow inner
    (c.edit_at.ensures.edits table (legal_pair w kept [] ps c.in-Some.place p legal.0 there)
    (omega (arith, inner, shallow, depth_value w ps k p.1 found.found)) new))

pub edit_kept_value-returns-in-None-clause-edits : goal.edit_kept_value-returns-in-None-clause-edits
edit_kept_value-returns-in-None-clause-edits t c table legal shallow new =
    let w = table_of c.args.wholes.now in
    let ps = c.args.pairs.now.items in
    let k = c.as_str.result.now in
    let absent = sym (c.in-None.ensures.place ∙ ap (λ qs. place_by (node_pairs [] qs) k) c.deref.ensures.value ∙ place_same [] w ps k) in
    rw (
      c.in-Key.is,
      sym c.as_str.ensures.value,
      no_value w (edit_of w c.args.edit) c.args.outer c.args.outer (step_of c.args.next.now)
          (path_of c.args.rest.now) ps k (not_found w ps k absent),
    ) refl

pub edit_at-returns-in_default-clause-edits : goal.edit_at-returns-in_default-clause-edits
edit_at-returns-in_default-clause-edits t c table legal shallow new =
    rw (no_items c.args.rest.now c.in_default.ensures.cases) (c.edit_container.ensures.edits table legal shallow new)

pub edit_at-returns-in-Maybe-clause-edits : goal.edit_at-returns-in-Maybe-clause-edits
unfolding Rattle.cabinet_text_nodes.specs.declared.node.Node.TheViews.out-Node denote.Hole.Carrier.out
edit_at-returns-in-Maybe-clause-edits t c table legal shallow new =
    let w = table_of c.args.wholes.now in
    let same = ap (λ o. node_tree w (node_of.Maybe o)) (sym c.in-Maybe.content-is) in
    let part_legal = subst IsLegal same (subst (λ n. IsLegal (node_tree w n)) c.in-Maybe.is legal) in
    let part_shallow = subst (λ u. c.args.outer + depth u ≤ 64) same (subst (λ n. c.args.outer + depth (node_tree w n) ≤ 64) c.in-Maybe.is shallow) in
    rw (c.in-Maybe.is, c.in-Some.ensures.cases.0)
    (moved (λ u s. limited c.args.outer (at_last (edit_of w c.args.edit) u s (step_of c.in-Some.next.now ∷ path_of c.in-Some.behind.now)))
    c.edit_content.result same refl refl
    (c.edit_content.ensures.edits table part_legal part_shallow new))

pub edit_at-returns-in-List-clause-edits : goal.edit_at-returns-in-List-clause-edits
unfolding Rattle.cabinet_text_nodes.specs.declared.node.Node.TheViews.out-Node denote.Hole.Carrier.out
edit_at-returns-in-List-clause-edits t c table legal shallow new =
    let w = table_of c.args.wholes.now in
    let same = node_tree-list w c.in-List.elements ∙ ap (λ v. list (node_trees w v.items)) (sym c.in-List.elements-is) in
    let part_legal = subst IsLegal same (subst (λ n. IsLegal (node_tree w n)) c.in-List.is legal) in
    let part_shallow = subst (λ u. c.args.outer + depth u ≤ 64) same (subst (λ n. c.args.outer + depth (node_tree w n) ≤ 64) c.in-List.is shallow) in
    rw (c.in-List.is, c.in-Some.ensures.cases.0)
    (moved (λ u s. limited c.args.outer (at_last (edit_of w c.args.edit) u s (step_of c.in-Some.next.now ∷ path_of c.in-Some.behind.now)))
    c.edit_element.result same refl (node_tree-list w c.edit_element.new.elements)
    (c.edit_element.ensures.edits table part_legal part_shallow new))

pub edit_at-returns-in-Ordered-clause-edits : goal.edit_at-returns-in-Ordered-clause-edits
unfolding Rattle.cabinet_text_nodes.specs.declared.node.Node.TheViews.out-Node denote.Hole.Carrier.out
edit_at-returns-in-Ordered-clause-edits t c table legal shallow new =
    let w = table_of c.args.wholes.now in
    let same = node_tree-ordered w c.in-Ordered.map ∙ ap (λ m. map ordered (node_pairs w m.entries)) (sym c.in-Ordered.map-is) in
    let part_legal = subst IsLegal same (subst (λ n. IsLegal (node_tree w n)) c.in-Ordered.is legal) in
    let part_shallow = subst (λ u. c.args.outer + depth u ≤ 64) same
    (subst (λ n. c.args.outer + depth (node_tree w n) ≤ 64) c.in-Ordered.is shallow) in
    rw (c.in-Ordered.is, c.in-Some.ensures.cases.0)
    (moved (λ u s. limited c.args.outer (at_last (edit_of w c.args.edit) u s (step_of c.in-Some.next.now ∷ path_of c.in-Some.behind.now)))
    c.edit_value.result same refl (node_tree-ordered w c.edit_value.new.map)
    (c.edit_value.ensures.edits ordered table part_legal part_shallow new))

pub edit_at-returns-in-Hashed-clause-edits : goal.edit_at-returns-in-Hashed-clause-edits
unfolding Rattle.cabinet_text_nodes.specs.declared.node.Node.TheViews.out-Node denote.Hole.Carrier.out
edit_at-returns-in-Hashed-clause-edits t c table legal shallow new =
    let w = table_of c.args.wholes.now in
    let same = node_tree-hashed w c.in-Hashed.map ∙ ap (λ m. map hashed (node_pairs w m.entries)) (sym c.in-Hashed.map-is) in
    let part_legal = subst IsLegal same (subst (λ n. IsLegal (node_tree w n)) c.in-Hashed.is legal) in
    let part_shallow = subst (λ u. c.args.outer + depth u ≤ 64) same
    (subst (λ n. c.args.outer + depth (node_tree w n) ≤ 64) c.in-Hashed.is shallow) in
    rw (c.in-Hashed.is, c.in-Some.ensures.cases.0)
    (moved (λ u s. limited c.args.outer (at_last (edit_of w c.args.edit) u s (step_of c.in-Some.next.now ∷ path_of c.in-Some.behind.now)))
    c.edit_value-in-Hashed.result same refl (node_tree-hashed w c.edit_value-in-Hashed.new.map)
    (c.edit_value-in-Hashed.ensures.edits hashed table part_legal part_shallow new))

pub edit_at-returns-in-Kept-clause-edits : goal.edit_at-returns-in-Kept-clause-edits
unfolding Rattle.cabinet_text_nodes.specs.declared.node.Node.TheViews.out-Node denote.Hole.Carrier.out
edit_at-returns-in-Kept-clause-edits t c table legal shallow new =
    let w = table_of c.args.wholes.now in
    let same = node_tree-kept w c.in-Kept.pairs ∙ ap (λ m. map kept (node_pairs w m.items)) (sym c.in-Kept.pairs-is) in
    let part_legal = subst IsLegal same (subst (λ n. IsLegal (node_tree w n)) c.in-Kept.is legal) in
    let part_shallow = subst (λ u. c.args.outer + depth u ≤ 64) same (subst (λ n. c.args.outer + depth (node_tree w n) ≤ 64) c.in-Kept.is shallow) in
    rw (c.in-Kept.is, c.in-Some.ensures.cases.0)
    (moved (λ u s. limited c.args.outer (at_last (edit_of w c.args.edit) u s (step_of c.in-Some.next.now ∷ path_of c.in-Some.behind.now)))
    c.edit_kept_value.result same refl (node_tree-kept w c.edit_kept_value.new.pairs)
    (c.edit_kept_value.ensures.edits table part_legal part_shallow new))

pub edit_content-returns-clause-counted : goal.edit_content-returns-clause-counted
edit_content-returns-clause-counted t c table legal new takes =
    let w = table_of c.args.wholes.now in
    let here = ap (λ o. node_tree w (node_of.Maybe o)) c.in-Some.is ∙ node_tree-some w c.in-Some.content
    ∙ ap (λ n. just (node_tree w n)) (sym c.deref_mut.ensures.value) in
    subst IsCounted (sym (node_tree-some w (with_value c.in-Some.content c.edit_at.new.node)))
    (c.edit_at.ensures.counted table (subst IsLegal here legal) new takes)

pub edit_element-returns-in-Some-clause-counted : goal.edit_element-returns-in-Some-clause-counted
edit_element-returns-in-Some-clause-counted t c table legal new takes =
    let w = table_of c.args.wholes.now in
    let ns = c.args.elements.now.items in
    let old = c.in-Some.element.now in
    let there = sym (item_found (λ (x : MutBor Node). x.now) ns c.in-Place.place (Some c.in-Some.element) c.in-Some.ensures.item) in
    list_counted w c.edit_at.new.node (c.edit_at.ensures.counted table (legal_element w ns c.in-Place.place old legal.0 there) new takes) ns
    c.in-Place.place legal

pub edit_value-returns-in-Some-clause-counted : goal.edit_value-returns-in-Some-clause-counted
edit_value-returns-in-Some-clause-counted t c kind table legal new takes =
    let w = table_of c.args.wholes.now in
    let ps = c.args.map.now.entries in
    let k = c.as_str.result.now in
    let there = sym c.in-Some.ensures.value in
    rw (c.get_mut.follows.holds c.edit_at.new.node).0
    (map_counted w c.edit_at.new.node (c.edit_at.ensures.counted table (legal_value w kind ps k c.in-Some.value.now legal.0 there) new takes)
    (is_key k) kind ps legal)

pub edit_value-returns-in-None-clause-counted : goal.edit_value-returns-in-None-clause-counted
edit_value-returns-in-None-clause-counted t c kind table legal new takes =
    rw c.get_mut.follows.holds-at-none
    (legal_counted (map kind (node_pairs (table_of c.args.wholes.now) c.args.map.now.entries)) legal)

pub edit_kept_value-returns-in-Some-clause-counted : goal.edit_kept_value-returns-in-Some-clause-counted
edit_kept_value-returns-in-Some-clause-counted t c table legal new takes =
    let w = table_of c.args.wholes.now in
    let ps = c.args.pairs.now.items in
    let k = c.as_str.result.now in
    let within = subst (λ qs. c.in-Some.place < length qs) c.deref.ensures.value c.in-Some.ensures.within in
    let p = c.index_mut.result.now in
    let there = slice_get-get_or ps c.in-Some.place p within ∙ ap Some (sym c.index_mut.ensures.value) in
    let at = sym (c.in-Some.ensures.place ∙ ap (λ qs. place_by (node_pairs [] qs) k) c.deref.ensures.value ∙ place_same [] w ps k) in
    let found = placed w ps k c.in-Some.place p at there in
    rw (found.put c.edit_at.new.node)
    (map_counted w c.edit_at.new.node (c.edit_at.ensures.counted table (legal_pair w kept [] ps c.in-Some.place p legal.0 there) new takes)
    (is_key k) kept ps legal)

pub edit_at-returns-in-Maybe-clause-counted : goal.edit_at-returns-in-Maybe-clause-counted
unfolding Rattle.cabinet_text_nodes.specs.declared.node.Node.TheViews.out-Node denote.Hole.Carrier.out
edit_at-returns-in-Maybe-clause-counted t c table legal new takes =
    let w = table_of c.args.wholes.now in
    let same = ap (λ o. node_tree w (node_of.Maybe o)) (sym c.in-Maybe.content-is) in
    let part_legal = subst IsLegal same (subst (λ n. IsLegal (node_tree w n)) c.in-Maybe.is legal) in
    rw c.in-Maybe.is (c.edit_content.ensures.counted table part_legal new takes)

pub edit_at-returns-in-List-clause-counted : goal.edit_at-returns-in-List-clause-counted
unfolding Rattle.cabinet_text_nodes.specs.declared.node.Node.TheViews.out-Node denote.Hole.Carrier.out
edit_at-returns-in-List-clause-counted t c table legal new takes =
    let w = table_of c.args.wholes.now in
    let same = node_tree-list w c.in-List.elements ∙ ap (λ v. list (node_trees w v.items)) (sym c.in-List.elements-is) in
    let part_legal = subst IsLegal same (subst (λ n. IsLegal (node_tree w n)) c.in-List.is legal) in
    rw c.in-List.is
    (subst IsCounted (sym (node_tree-list w c.edit_element.new.elements)) (c.edit_element.ensures.counted table part_legal new takes))

pub edit_at-returns-in-Ordered-clause-counted : goal.edit_at-returns-in-Ordered-clause-counted
unfolding Rattle.cabinet_text_nodes.specs.declared.node.Node.TheViews.out-Node denote.Hole.Carrier.out
edit_at-returns-in-Ordered-clause-counted t c table legal new takes =
    let w = table_of c.args.wholes.now in
    let same = node_tree-ordered w c.in-Ordered.map ∙ ap (λ v. map ordered (node_pairs w v.entries)) (sym c.in-Ordered.map-is) in
    let part_legal = subst IsLegal same (subst (λ n. IsLegal (node_tree w n)) c.in-Ordered.is legal) in
    rw c.in-Ordered.is
    (subst IsCounted (sym (node_tree-ordered w c.edit_value.new.map)) (c.edit_value.ensures.counted ordered table part_legal new takes))

pub edit_at-returns-in-Hashed-clause-counted : goal.edit_at-returns-in-Hashed-clause-counted
unfolding Rattle.cabinet_text_nodes.specs.declared.node.Node.TheViews.out-Node denote.Hole.Carrier.out
edit_at-returns-in-Hashed-clause-counted t c table legal new takes =
    let w = table_of c.args.wholes.now in
    let same = node_tree-hashed w c.in-Hashed.map ∙ ap (λ v. map hashed (node_pairs w v.entries)) (sym c.in-Hashed.map-is) in
    let part_legal = subst IsLegal same (subst (λ n. IsLegal (node_tree w n)) c.in-Hashed.is legal) in
    rw c.in-Hashed.is
    (subst IsCounted (sym (node_tree-hashed w c.edit_value-in-Hashed.new.map)) (c.edit_value-in-Hashed.ensures.counted hashed table part_legal new takes))

pub edit_at-returns-in-Kept-clause-counted : goal.edit_at-returns-in-Kept-clause-counted
unfolding Rattle.cabinet_text_nodes.specs.declared.node.Node.TheViews.out-Node denote.Hole.Carrier.out
edit_at-returns-in-Kept-clause-counted t c table legal new takes =
    let w = table_of c.args.wholes.now in
    let same = node_tree-kept w c.in-Kept.pairs ∙ ap (λ v. map kept (node_pairs w v.items)) (sym c.in-Kept.pairs-is) in
    let part_legal = subst IsLegal same (subst (λ n. IsLegal (node_tree w n)) c.in-Kept.is legal) in
    rw c.in-Kept.is
    (subst IsCounted (sym (node_tree-kept w c.edit_kept_value.new.pairs)) (c.edit_kept_value.ensures.counted table part_legal new takes))

pub edit_content-returns-in_default-clause-counted : goal.edit_content-returns-in_default-clause-counted
edit_content-returns-in_default-clause-counted t c table legal new takes =
    legal_counted (node_tree (table_of c.args.wholes.now) (node_of.Maybe c.args.content.now)) legal

pub edit_element-returns-in_default-clause-counted : goal.edit_element-returns-in_default-clause-counted
edit_element-returns-in_default-clause-counted t c table legal new takes =
    legal_counted (list (node_trees (table_of c.args.wholes.now) c.args.elements.now.items)) legal

pub edit_element-returns-in-None-clause-counted : goal.edit_element-returns-in-None-clause-counted
edit_element-returns-in-None-clause-counted t c table legal new takes =
    legal_counted (list (node_trees (table_of c.args.wholes.now) c.args.elements.now.items)) legal

pub edit_value-returns-in_default-clause-counted : goal.edit_value-returns-in_default-clause-counted
edit_value-returns-in_default-clause-counted t c kind table legal new takes =
    legal_counted (map kind (node_pairs (table_of c.args.wholes.now) c.args.map.now.entries)) legal

pub edit_kept_value-returns-in_default-clause-counted : goal.edit_kept_value-returns-in_default-clause-counted
edit_kept_value-returns-in_default-clause-counted t c table legal new takes =
    legal_counted (map kept (node_pairs (table_of c.args.wholes.now) c.args.pairs.now.items)) legal

pub edit_kept_value-returns-in-None-clause-counted : goal.edit_kept_value-returns-in-None-clause-counted
edit_kept_value-returns-in-None-clause-counted t c table legal new takes =
    legal_counted (map kept (node_pairs (table_of c.args.wholes.now) c.args.pairs.now.items)) legal

pub edit_at-returns-in-Inside-clause-counted : goal.edit_at-returns-in-Inside-clause-counted
edit_at-returns-in-Inside-clause-counted t c table legal new takes =
    legal_counted (node_tree (table_of c.args.wholes.now) c.args.node.now) legal

pub edit_at-returns-in-Whole-clause-counted : goal.edit_at-returns-in-Whole-clause-counted
edit_at-returns-in-Whole-clause-counted t c table legal new takes =
    legal_counted (node_tree (table_of c.args.wholes.now) c.args.node.now) legal

pub edit_at-returns-clause-counted : goal.edit_at-returns-clause-counted
edit_at-returns-clause-counted t c table legal new takes =
    legal_counted (node_tree (table_of c.args.wholes.now) c.args.node.now) legal
