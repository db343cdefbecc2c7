use Rattle.archive_core.proofs.Unshared.{back_law}
use Rattle.archive_core.proofs.laws.unshared_is_read_back.Goals as goal

pub returns : goal.returns
returns g c = back_law g.T.Archived.Portable.shape g.T.Archived.Portable.knows g.T.Archive.spelling g.met.T.Archive.spells g.T.Archived.ReadBack.reads
