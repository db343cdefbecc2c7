use Rattle.archive_btree_maps.proofs.map.map.ArchivedBTreeMap.get.Goals as goal

pub returns-clause-answers : goal.returns-clause-answers
returns-clause-answers g c t order h q = (c.get_counted.ensures.answers t order h q).0
