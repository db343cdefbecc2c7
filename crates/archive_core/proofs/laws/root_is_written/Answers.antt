use Rattle.archive_core.proofs.Roots.{root_law, root_readable_law}
use Rattle.archive_core.proofs.laws.root_is_written.Goals as goal

pub returns-clause-written : goal.returns-clause-written
returns-clause-written g c = root_law g.T.Archived.Portable.shape g.T.Archived.Portable.knows g.T.Archive.spelling g.met.T.Archive.spells

pub returns-clause-readable : goal.returns-clause-readable
returns-clause-readable g c = root_readable_law g.T.Archived.Portable.shape g.T.Archived.Portable.knows g.T.Archive.spelling g.met.T.Archive.spells
