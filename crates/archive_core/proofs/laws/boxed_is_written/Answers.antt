use Rattle.archive_forms_writing.proofs.Readable.{boxed_law, boxed_readable_law}
use Rattle.archive_core.proofs.laws.boxed_is_written.Goals as goal

pub returns-clause-written : goal.returns-clause-written
returns-clause-written g c = boxed_law g.T.Archived.Portable.shape g.T.Archived.Portable.knows g.T.Archive.spelling g.met.T.Archive.spells

pub returns-clause-readable : goal.returns-clause-readable
returns-clause-readable g c = boxed_readable_law g.T.Archived.Portable.shape g.T.Archived.Portable.knows g.T.Archive.spelling g.met.T.Archive.spells
