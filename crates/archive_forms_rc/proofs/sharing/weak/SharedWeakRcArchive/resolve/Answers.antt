use Rattle.archive_forms_rc.proofs.sharing.weak.SharedWeakRcArchive.resolve.Goals as goal

pub resolve_from_ref-requires : goal.resolve_from_ref-requires
resolve_from_ref-requires g c = record {
  room = rw (c.within.ensures.bytes, c.within.ensures.start) c.requires.room;
  stands = rw c.within.ensures.pos c.requires.stands;
  blank = rw (c.within.ensures.bytes, c.within.ensures.start) c.requires.blank;
  made = c.requires.made;
}
