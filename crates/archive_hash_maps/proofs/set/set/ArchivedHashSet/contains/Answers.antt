use Rattle.archive_hash_maps.proofs.set.set.ArchivedHashSet.contains.Goals as goal

pub returns : goal.returns
returns g c = simp c.as_map.ensures at c.contains_key.ensures
