use Rattle.archive_core.proofs.Joined.{written_law}
use Rattle.archive_core.proofs.laws.written_is_accepted.Goals as goal

pub returns : goal.returns
returns g c = written_law g.T.Archived.Portable.shape g.T.Archived.Portable.knows g.T.Archive.spelling
