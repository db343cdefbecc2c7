use Rattle.std.proofs.Common.{refl, ap, length, arith}
use Rattle.archive_btree_layout.specs.Tree.{items}
use Rattle.archive_btree_maps.specs.Walks.{BegunMap}
use Rattle.archive_btree_maps.proofs.Roots.{tree_of_value}
use Rattle.archive_btree_tests.proofs.sealing.visit_values.Goals as goal

pub loop-at-init : goal.loop-at-init
loop-at-init g c =
    let m = tree_of_value c.requires in
    let begun : BegunMap g.row.E g.K.Portable.shape g.V.Portable.shape g.K.Portable.knows g.V.Portable.knows =
    record { bytes = c.args.map.bytes.now; pos = c.args.map.pos; search_tree = m.search_tree; has = c.requires; map = m.map }
    in
    let has = c.values_seal-values.ensures.values begun refl refl in
    record { begun = begun; left = items m.search_tree; has = has.0; written = has.1 }

pub loop-at-smaller : goal.loop-at-smaller
loop-at-smaller g c =
    let i = c.loop-at.invariant in
    let s = c.in-Some.ensures.visits g.row.E i.begun i.left i.has i.written in
    omega (arith, i.has.count, s.4.0.count, ap length s.2)

pub loop-at-preserved : goal.loop-at-preserved
loop-at-preserved g c =
    let i = c.loop-at.invariant in
    let s = c.in-Some.ensures.visits g.row.E i.begun i.left i.has i.written in
    record { begun = i.begun; left = s.1; has = record { goes = s.4.0.goes; count = s.4.0.count }; written = s.4.1 }

pub visit_next-requires-clause-has : goal.visit_next-requires-clause-has
visit_next-requires-clause-has g c =
    let i = c.loop-at.invariant in
    (g.row.E, i.begun, i.left, i.has, i.written)
