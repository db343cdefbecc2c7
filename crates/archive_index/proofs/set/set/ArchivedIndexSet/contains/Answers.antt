use Rattle.archive_index.proofs.set.set.ArchivedIndexSet.contains.Goals as goal

pub returns : goal.returns
returns g c = simp c.as_map.ensures at c.contains_key.ensures
