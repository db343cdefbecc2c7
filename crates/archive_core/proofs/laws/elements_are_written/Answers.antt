use Rattle.archive_forms_writing.proofs.Readable.{elements_law, elements_readable_law}
use Rattle.archive_core.proofs.laws.elements_are_written.Goals as goal

pub returns-clause-written : goal.returns-clause-written
returns-clause-written g c = elements_law g.T.Archived.Portable.shape g.T.Archived.Portable.knows g.T.Archive.spelling g.met.T.Archive.spells

pub returns-clause-readable : goal.returns-clause-readable
returns-clause-readable g c = elements_readable_law g.T.Archived.Portable.shape g.T.Archived.Portable.knows g.T.Archive.spelling g.met.T.Archive.spells
