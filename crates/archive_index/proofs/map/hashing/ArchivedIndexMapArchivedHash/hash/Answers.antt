use Rattle.archive_index.proofs.map.hashing.ArchivedIndexMapArchivedHash.hash.Goals as goal

pub returns : goal.returns
returns g c value held = c.hash_elements.ensures value (c.entries.ensures.elements value held)
