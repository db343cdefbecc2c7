use Rattle.archive_btree_maps.proofs.set.set.ArchivedBTreeSet.is_empty.Goals as goal

pub returns : goal.returns
returns g c = simp c.as_map.ensures at c.is_empty.ensures
