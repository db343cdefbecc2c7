use Rattle.std.proofs.Common.{refl}
use Rattle.archive_btree_maps.specs.Walks.{BegunMap}
use Rattle.archive_btree_maps.proofs.Roots.{tree_of_value}
use Rattle.archive_btree_tests.proofs.sealing.note_range.Goals as goal

pub note_values-requires : goal.note_values-requires
note_values-requires g c =
    let m = tree_of_value c.requires in
    let begun : BegunMap g.row.E g.K.Portable.shape g.V.Portable.shape g.K.Portable.knows g.V.Portable.knows =
    record { bytes = c.args.map.bytes.now; pos = c.args.map.pos; search_tree = m.search_tree; has = c.requires; map = m.map }
    in
    let w = c.range_seal.ensures.within begun refl refl in
    (begun, w.0, w.1, w.2)
