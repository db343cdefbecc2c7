use Rattle.std.proofs.Common.{◌∙◌, ap}
use Rattle.std.specs.List.{fold}
use Rattle.archive_btree_maps.proofs.Keyed.{hashed_as_maps}
use Rattle.archive_btree_maps.proofs.set.hashing.ArchivedBTreeSetArchivedHash.hash.Goals as goal

pub returns : goal.returns
returns g c v h =
    let hashed = simp c.as_map.ensures at c.hash.ensures in
    hashed v h ∙ ap (fold g.H.Hasher.write c.args.state.now) (hashed_as_maps g.K.ArchivedHash.hashed v)
