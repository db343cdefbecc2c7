use Rattle.archive_index.proofs.set.set.ArchivedIndexSet.get_index_of.Goals as goal

pub returns : goal.returns
returns g c = simp c.as_map.ensures at c.get_index_of.ensures
