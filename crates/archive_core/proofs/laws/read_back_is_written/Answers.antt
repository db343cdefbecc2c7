use Rattle.archive_core.proofs.Joined.{read_back_law}
use Rattle.archive_core.proofs.laws.read_back_is_written.Goals as goal

pub returns : goal.returns
returns g c = read_back_law g.T.Archived.Portable.shape g.T.Archived.Portable.knows g.T.Archive.spelling g.T.Archived.ReadBack.reads
