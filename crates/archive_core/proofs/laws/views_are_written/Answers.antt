use Rattle.archive_forms_writing.proofs.Reached.{seen_law, kept_law}
use Rattle.archive_forms_writing.proofs.Readable.{seen_readable_law, kept_readable_law}
use Rattle.archive_core.proofs.laws.views_are_written.Goals as goal

pub returns-clause-seen : goal.returns-clause-seen
returns-clause-seen g c = seen_law g.T.Archive.spelling _

pub returns-clause-kept : goal.returns-clause-kept
returns-clause-kept g c = kept_law g.T.Archive.spelling _

pub returns-clause-seen_readable : goal.returns-clause-seen_readable
returns-clause-seen_readable g c = seen_readable_law g.T.Archived.Portable.shape g.T.Archive.spelling _

pub returns-clause-kept_readable : goal.returns-clause-kept_readable
returns-clause-kept_readable g c = kept_readable_law g.T.Archived.Portable.shape g.T.Archive.spelling _
