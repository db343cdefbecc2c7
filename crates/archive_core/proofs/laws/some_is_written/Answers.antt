use Rattle.archive_forms_writing.proofs.Readable.{some_law, some_readable_law}
use Rattle.archive_core.proofs.laws.some_is_written.Goals as goal

pub returns-clause-written : goal.returns-clause-written
returns-clause-written g c = some_law g.T.Archived.Portable.shape g.T.Archive.spelling

pub returns-clause-readable : goal.returns-clause-readable
returns-clause-readable g c = some_readable_law g.T.Archived.Portable.shape g.T.Archive.spelling
