use Rattle.std.proofs.Common.{refl}
use Rattle.archive_btree_layout.specs.Tree.{items}
use Rattle.archive_btree_maps.specs.Walks.{BegunMap}
use Rattle.archive_btree_maps.proofs.Roots.{tree_of_value}
use Rattle.archive_btree_tests.proofs.cursors.entry_after.Goals as goal

pub lent_after-requires : goal.lent_after-requires
lent_after-requires g c =
    let m = tree_of_value c.requires in
    let begun : BegunMap g.row.E g.K.Portable.shape g.V.Portable.shape g.K.Portable.knows g.V.Portable.knows =
    record { bytes = c.args.map.bytes.now; pos = c.args.map.pos; search_tree = m.search_tree; has = c.requires; map = m.map }
    in
    let has = c.iter_seal.ensures.entries begun refl refl in
    (begun, items m.search_tree, has.0, has.1)
