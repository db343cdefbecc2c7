use Rattle.std.proofs.Common.{◌≡◌, ◌≤◌, ◌*◌, ◌-◌, ◌^◌, min, None, refl, sym, subst}
use Rattle.archive_btree_layout.specs.Descent.{descend, met}
use Rattle.archive_btree_maps.specs.Descents.{DescendsTo}
use Rattle.archive_btree_maps.proofs.Roots.{tree_of_value}
use Rattle.archive_btree_maps.proofs.walking.lookup.search_map.Goals as goal

pub search_counted-requires : goal.search_counted-requires
search_counted-requires g c =
    let m = tree_of_value c.requires.has in
    record { tree = (m.search_tree, c.in-Some.ensures.tree m.search_tree m.map, c.requires.callable m.search_tree m.map) }

pub returns-in-Some-clause-answers : goal.returns-in-Some-clause-answers
returns-in-Some-clause-answers g c t order h orders = c.search_counted.ensures.answers t order (c.in-Some.ensures.tree t h) orders

pub returns-in-None-clause-answers : goal.returns-in-None-clause-answers
returns-in-None-clause-answers g c t order h orders = subst (λ x. (None ≡ descend order x) × (0 ≡ min (met order x) (2 ^ 64 - 1))) (sym (c.in-None.ensures.tree t h)) (refl, refl)

pub returns-in-Some-clause-found : goal.returns-in-Some-clause-found
returns-in-Some-clause-found g c t h = c.search_counted.ensures.found t (c.in-Some.ensures.tree t h)

pub returns-in-Some-clause-descends : goal.returns-in-Some-clause-descends
returns-in-Some-clause-descends g c t h = c.search_counted.ensures.descends t (c.in-Some.ensures.tree t h)

pub returns-in-None-clause-descends : goal.returns-in-None-clause-descends
returns-in-None-clause-descends g c t h = subst (λ x. DescendsTo (λ e r. goal.F-post g c.args.compare.now e.key r) x None) (sym (c.in-None.ensures.tree t h)) refl

pub returns-in-Some-clause-few : goal.returns-in-Some-clause-few
returns-in-Some-clause-few g c = subst (λ n. c.search_counted.result.1 ≤ 32 * n) c.in-Some.ensures.leads.1.entries c.search_counted.ensures.few
