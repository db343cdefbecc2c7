use Rattle.archive_index.proofs.map.map.ArchivedIndexMap.visit_full_seal.Goals as goal

pub returns : goal.returns
returns g c m is = (c.search_key-found.result, c.search_key-found.ensures.answers m is, c.visit_found.ensures m is)
