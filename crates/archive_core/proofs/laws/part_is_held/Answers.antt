use Rattle.archive_forms_writing.proofs.Readable.{held_law}
use Rattle.archive_core.proofs.laws.part_is_held.Goals as goal

pub returns : goal.returns
returns g c = held_law g.T.Archived.Portable.shape g.T.Archived.Portable.knows g.T.Archive.spelling g.met.T.Archive.spells
