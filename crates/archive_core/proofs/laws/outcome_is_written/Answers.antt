use Rattle.archive_forms_writing.proofs.Readable.{ok_law, err_law, ok_readable_law, err_readable_law}
use Rattle.archive_core.proofs.laws.outcome_is_written.Goals as goal

pub returns-clause-ok : goal.returns-clause-ok
returns-clause-ok g c = ok_law g.T.Archived.Portable.shape g.E.Archived.Portable.shape g.T.Archive.spelling g.E.Archive.spelling

pub returns-clause-err : goal.returns-clause-err
returns-clause-err g c = err_law g.T.Archived.Portable.shape g.E.Archived.Portable.shape g.T.Archive.spelling g.E.Archive.spelling

pub returns-clause-ok_readable : goal.returns-clause-ok_readable
returns-clause-ok_readable g c = ok_readable_law g.T.Archived.Portable.shape g.E.Archived.Portable.shape g.T.Archive.spelling g.E.Archive.spelling

pub returns-clause-err_readable : goal.returns-clause-err_readable
returns-clause-err_readable g c = err_readable_law g.T.Archived.Portable.shape g.E.Archived.Portable.shape g.T.Archive.spelling g.E.Archive.spelling
