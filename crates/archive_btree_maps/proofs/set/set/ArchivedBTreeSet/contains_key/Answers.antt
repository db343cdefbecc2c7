use Rattle.archive_btree_maps.proofs.set.set.ArchivedBTreeSet.contains_key.Goals as goal

pub returns-clause-found : goal.returns-clause-found
returns-clause-found g c = simp c.as_map.ensures at c.contains_key.ensures.found

pub returns-clause-answers : goal.returns-clause-answers
returns-clause-answers g c = simp c.as_map.ensures at c.contains_key.ensures.answers

pub returns-clause-looks_up : goal.returns-clause-looks_up
returns-clause-looks_up g c = simp c.as_map.ensures at c.contains_key.ensures.looks_up
