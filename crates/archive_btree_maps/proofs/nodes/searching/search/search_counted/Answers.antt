use Rattle.std.proofs.Common.{◌≡◌, ◌∙◌, ◌+◌, ◌*◌, ◌≤◌, ◌<◌, ℕ, suc-mul, suc, min, ap, sym, subst, refl, arith, mul-le-mul_right}
use Rattle.std.specs.Prelude.{Some, None, Contains}
use Rattle.std.specs.declared.cmp.Ordering.{Ordering}
use Rattle.std.specs.declared.cmp.Ordering.TheVariants.{Equal}
use Rattle.std.proofs.lemmas.List.Elements.{All-contains_itself}
use Rattle.archive_btree_layout.specs.Tree.{items}
use Rattle.archive_btree_maps.specs.Descents.{DescendsTo}
use Rattle.archive_btree_maps.specs.SearchingLayout.{IsTreeAt}
use Rattle.archive_btree_maps.specs.SearchingNodes.{entry_count}
use Rattle.archive_btree_maps.specs.declared.nodes.searching.search.Outcome.TheVariants.{Equals, Before}
use Rattle.archive_btree_maps.proofs.NodeTree.{tree_level, tree_readable}
use Rattle.archive_btree_maps.proofs.NodeSearch.{own_holds, child_stands, node_answers, found, missing, onward, ends_there, ends_nowhere, leads_to}
use Rattle.archive_btree_maps.proofs.nodes.searching.search.search_counted.Goals as goal

-- one level more
next_few : (level entries : ℕ) → (level + 1) * entries ≡ level * entries + entries
next_few level entries = let step : level + 1 ≡ suc level = omega arith in ap (λ n. n * entries) step ∙ suc-mul level entries

-- what is compared on one level more, of at most 32
all_few : (level entries before here all : ℕ) → level < 32 → before ≤ level * entries → here ≤ entries → all ≤ before + here → all ≤ 32 * entries
all_few level entries before here all low f h s =
    let most : (level + 1) * entries ≤ 32 * entries = mul-le-mul_right entries (omega (arith, low)) in
    let step = next_few level entries in
    omega (arith, f, h, s, most, step)

pub loop-level-init : goal.loop-level-init
loop-level-init g c =
    record {
      stands = c.requires.tree;
      among = λ t h. (t, h, All-contains_itself (items t));
      descends = λ t h. (t, h, λ found ends. ends);
      leads = λ t order h orders. (t, 0, h, orders, refl, omega arith, omega arith);
      few = omega arith;
    }

pub entry_count-count-requires : goal.entry_count-count-requires
entry_count-count-requires g c =
    let s = c.loop-level.invariant.stands in
    tree_readable c.args.bytes.now c.args.layout (c.loop-level._level + 1) c.loop-level.pos s.0 s.1 (omega arith)

pub overflow_add-pos : goal.overflow_add-pos
overflow_add-pos g c =
    let s = c.loop-level.invariant.stands in
    let r = tree_readable c.args.bytes.now c.args.layout (c.loop-level._level + 1) c.loop-level.pos s.0 s.1 (omega arith) in
    omega (arith, r.link, r.keys)

pub search_keys-requires-clause-callable : goal.search_keys-requires-clause-callable
search_keys-requires-clause-callable g c i below =
    let s = c.loop-level.invariant.stands in
    own_holds c.args.bytes.now c.args.layout (c.loop-level._level + 1) c.loop-level.pos s.0 s.1 (λ e. goal.F-pre g c.args.compare.now e.key) s.2 i
    (omega (arith, c.entry_count-count.ensures))

pub search_keys-requires-clause-room : goal.search_keys-requires-clause-room
search_keys-requires-clause-room g c =
    let s = c.loop-level.invariant.stands in
    let r = tree_readable c.args.bytes.now c.args.layout (c.loop-level._level + 1) c.loop-level.pos s.0 s.1 (omega arith) in
    let within : c.entry_count-count.result * c.args.layout.key_size ≤ c.args.layout.entries * c.args.layout.key_size =
    mul-le-mul_right c.args.layout.key_size (omega (arith, r.count, c.entry_count-count.ensures))
    in
    omega (arith, r.link, r.keys)

pub entry_of-entry-requires-clause-node : goal.entry_of-entry-requires-clause-node
entry_of-entry-requires-clause-node g c =
    let s = c.loop-level.invariant.stands in
    tree_readable c.args.bytes.now c.args.layout (c.loop-level._level + 1) c.loop-level.pos s.0 s.1 (omega arith)

pub child_of-requires-clause-node : goal.child_of-requires-clause-node
child_of-requires-clause-node g c =
    let s = c.loop-level.invariant.stands in
    tree_readable c.args.bytes.now c.args.layout (c.loop-level._level + 1) c.loop-level.pos s.0 s.1 (omega arith)

pub returns-in-Equals-clause-answers : goal.returns-in-Equals-clause-answers
returns-in-Equals-clause-answers g c t order h orders =
    let r = c.loop-level.invariant.leads t order h orders in
    let a = node_answers c.args.bytes.now c.args.layout (c.loop-level._level + 1) c.loop-level.pos r.0 r.2 (goal.F-post g) c.args.compare.now order _ (Equals c.in-Equals.i) c.entry_count-count.ensures c.in-Equals.ensures r.3 in
    let f = found c.args.bytes.now c.args.layout (c.loop-level._level + 1) c.loop-level.pos r.0 r.2 order c.in-Equals.i a in
    (ap Some c.entry_of-entry.ensures ∙ sym f.found ∙ sym r.4, omega (arith, c.saturating_add.ensures, r.5, r.6, f.count))

pub returns-in-Equals-clause-found : goal.returns-in-Equals-clause-found
returns-in-Equals-clause-found g c t h =
    let bytes = c.args.bytes.now in
    let l = c.args.layout in
    let r = c.loop-level.invariant.among t h in
    let own =
    own_holds bytes l (c.loop-level._level + 1) c.loop-level.pos r.0 r.1 (Contains (items t)) r.2 c.in-Equals.i
    (omega (arith, c.in-Equals.ensures.0, c.entry_count-count.ensures))
    in
    let here = c.entry_of-entry.ensures in
    (subst (Contains (items t)) (sym here) own, subst (λ e. goal.F-post g c.args.compare.now e.key Equal) (sym here) c.in-Equals.ensures.2)

pub returns-in-Equals-clause-descends : goal.returns-in-Equals-clause-descends
returns-in-Equals-clause-descends g c t h =
    let r = c.loop-level.invariant.descends t h in
    let here = ends_there c.args.bytes.now c.args.layout (c.loop-level._level + 1) c.loop-level.pos r.0 r.1 (λ e o. goal.F-post g c.args.compare.now e.key o) _ c.in-Equals.i c.entry_count-count.ensures c.in-Equals.ensures in
    r.2 _ (subst (DescendsTo (λ e o. goal.F-post g c.args.compare.now e.key o) r.0) (ap Some (sym c.entry_of-entry.ensures)) here)

pub returns-in-None-clause-descends : goal.returns-in-None-clause-descends
returns-in-None-clause-descends g c t h =
    let r = c.loop-level.invariant.descends t h in
    r.2 None (ends_nowhere c.args.bytes.now c.args.layout (c.loop-level._level + 1) c.loop-level.pos r.0 r.1 (λ e o. goal.F-post g c.args.compare.now e.key o) _ c.in-Before.i c.entry_count-count.ensures c.in-Before.ensures (sym c.in-None.ensures))

pub returns-in-None-clause-answers : goal.returns-in-None-clause-answers
returns-in-None-clause-answers g c t order h orders =
    let r = c.loop-level.invariant.leads t order h orders in
    let a = node_answers c.args.bytes.now c.args.layout (c.loop-level._level + 1) c.loop-level.pos r.0 r.2 (goal.F-post g) c.args.compare.now order _ (Before c.in-Before.i) c.entry_count-count.ensures c.in-Before.ensures r.3 in
    let f = missing c.args.bytes.now c.args.layout (c.loop-level._level + 1) c.loop-level.pos r.0 r.2 order c.in-Before.i a (sym c.in-None.ensures) in (
      sym f.none ∙ sym r.4,
      omega (arith, c.saturating_add-compared.ensures, c.min.ensures, c.saturating_add-in-Before.ensures, c.entry_count-count.ensures, r.5, r.6, f.count),
    )

pub loop-level-preserved : goal.loop-level-preserved
loop-level-preserved g c =
    let l = c.args.layout in
    let bytes = c.args.bytes.now in
    let level = c.loop-level._level + 1 in
    let pos = c.loop-level.pos in
    let i = c.in-Before.i in
    let step : suc level ≡ level + 1 = omega arith in
    let s = c.loop-level.invariant.stands in
    let next =
    child_stands bytes l level pos s.0 s.1 (λ e. goal.F-pre g c.args.compare.now e.key) s.2 i c.in-Some.child
    (omega (arith, c.in-Before.ensures.0, c.entry_count-count.ensures)) (sym c.in-Some.ensures)
    in
    record {
      stands = (next.tree, subst (λ x. IsTreeAt bytes l x c.in-Some.child next.tree) step next.stands, next.holds);
      among = λ t h.
          let r = c.loop-level.invariant.among t h in
          let child =
          child_stands bytes l level pos r.0 r.1 (Contains (items t)) r.2 i c.in-Some.child
          (omega (arith, c.in-Before.ensures.0, c.entry_count-count.ensures)) (sym c.in-Some.ensures)
          in
          (child.tree, subst (λ x. IsTreeAt bytes l x c.in-Some.child child.tree) step child.stands, child.holds);
      descends = λ t h.
          let r = c.loop-level.invariant.descends t h in
          let child = leads_to bytes l level pos r.0 r.1 (λ e o. goal.F-post g c.args.compare.now e.key o) _ i c.entry_count-count.ensures c.in-Before.ensures c.in-Some.child (sym c.in-Some.ensures) in
          (child.tree, subst (λ x. IsTreeAt bytes l x c.in-Some.child child.tree) step child.stands, λ found ends. r.2 found (child.leads found ends));
      leads = λ t order h orders.
          let r = c.loop-level.invariant.leads t order h orders in
          let a = node_answers bytes l level pos r.0 r.2 (goal.F-post g) c.args.compare.now order _ (Before c.in-Before.i) c.entry_count-count.ensures c.in-Before.ensures r.3 in
          let f = onward bytes l level pos r.0 r.2 order i a (λ e. (o : Ordering) → goal.F-post g c.args.compare.now e.key o → o ≡ order e) c.in-Some.child (sym c.in-Some.ensures) in (
            f.tree,
            r.1 + min (suc i) (entry_count bytes l pos),
            subst (λ x. IsTreeAt bytes l x c.in-Some.child f.tree) step f.stands,
            f.holds r.3,
            r.4 ∙ f.same,
            omega (arith, r.5, f.count),
            omega (arith, c.saturating_add-compared.ensures, c.min.ensures, c.saturating_add-in-Before.ensures, c.entry_count-count.ensures, r.6),
          );
      few =
          let r = tree_readable bytes l level pos s.0 s.1 (omega arith) in
          let more = next_few c.loop-level._level l.entries in
          omega (arith, c.saturating_add-compared.ensures, c.min.ensures, c.saturating_add-in-Before.ensures, c.entry_count-count.ensures, r.count, c.loop-level.invariant.few, more);
    }

pub returns : goal.returns
returns g c =
    let s = c.loop-level.invariant.stands in
    let within = tree_level c.args.bytes.now c.args.layout (c.loop-level._level + 1) c.loop-level.pos s.0 s.1 in
    absurd (omega arith)

pub returns-in-Equals-clause-few : goal.returns-in-Equals-clause-few
returns-in-Equals-clause-few g c =
    let s = c.loop-level.invariant.stands in
    let r = tree_readable c.args.bytes.now c.args.layout (c.loop-level._level + 1) c.loop-level.pos s.0 s.1 (omega arith) in
    all_few c.loop-level._level c.args.layout.entries c.loop-level.compared (c.in-Equals.i + 1) _ (omega arith) c.loop-level.invariant.few
    (omega (arith, c.in-Equals.ensures.0, c.entry_count-count.ensures, r.count)) (omega (arith, c.saturating_add.ensures))

pub returns-in-None-clause-few : goal.returns-in-None-clause-few
returns-in-None-clause-few g c =
    let s = c.loop-level.invariant.stands in
    let r = tree_readable c.args.bytes.now c.args.layout (c.loop-level._level + 1) c.loop-level.pos s.0 s.1 (omega arith) in
    all_few c.loop-level._level c.args.layout.entries c.loop-level.compared (entry_count c.args.bytes.now c.args.layout c.loop-level.pos) _ (omega arith) c.loop-level.invariant.few
    r.count (omega (arith, c.saturating_add-compared.ensures, c.min.ensures, c.saturating_add-in-Before.ensures, c.entry_count-count.ensures))
