use Rattle.archive_index.proofs.map.equal.ArchivedIndexMapArchivedEq.eq.Goals as goal

pub returns : goal.returns
returns g c v w these others = c.equal_elements.ensures v w (c.entries.ensures.elements v these) (c.entries-2.ensures.elements w others)
