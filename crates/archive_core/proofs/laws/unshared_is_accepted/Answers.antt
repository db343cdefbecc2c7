use Rattle.archive_core.proofs.Unshared.{accepted_law}
use Rattle.archive_core.proofs.laws.unshared_is_accepted.Goals as goal

pub returns : goal.returns
returns g c = accepted_law g.T.Archived.Portable.shape g.T.Archived.Portable.knows g.T.Archive.spelling g.met.T.Archive.spells
