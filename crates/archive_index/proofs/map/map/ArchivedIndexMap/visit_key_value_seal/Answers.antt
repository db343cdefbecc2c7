use Rattle.archive_index.proofs.map.map.ArchivedIndexMap.visit_key_value_seal.Goals as goal

pub returns : goal.returns
returns g c m is =
    let visited = c.in-Some.ensures m is in
    (c.search_key-found.result, c.search_key-found.ensures.answers m is, (visited.0, visited.1, visited.2.1))

pub returns-in_default : goal.returns-in_default
returns-in_default g c m is = (c.search_key-found.result, c.search_key-found.ensures.answers m is, c.in_default.ensures m is)
