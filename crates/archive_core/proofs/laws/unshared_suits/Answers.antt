use Rattle.archive_core.proofs.Unshared.{suits_law}
use Rattle.archive_core.proofs.laws.unshared_suits.Goals as goal

pub returns : goal.returns
returns g c = suits_law g.T.Archived.Portable.shape g.T.Archived.Portable.knows g.T.Archive.spelling g.met.T.Archive.spells
