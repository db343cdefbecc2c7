use Rattle.archive_hash.proofs.entry_with.EntryWithArchiveWithEntryAdapter.resolve_with.Goals as goal

pub resolve-requires : goal.resolve-requires
resolve-requires g c =
    rw (c.within.ensures.bytes, c.within.ensures.start, c.within.ensures.pos)
    (record { room = c.requires.room; stands = c.requires.stands; blank = c.requires.blank; made = c.requires.made })
