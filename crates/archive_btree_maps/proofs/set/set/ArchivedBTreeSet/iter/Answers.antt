use Rattle.archive_btree_maps.proofs.set.set.ArchivedBTreeSet.iter.Goals as goal

pub returns : goal.returns
returns g c = simp c.as_map.ensures at c.keys.ensures
