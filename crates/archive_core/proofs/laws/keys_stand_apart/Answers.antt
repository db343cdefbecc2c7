use Rattle.archive_core.proofs.Apart.{apart_law}
use Rattle.archive_core.proofs.laws.keys_stand_apart.Goals as goal

pub returns : goal.returns
returns g c = apart_law g.T.Archived.Portable.shape g.T.Archived.Portable.knows g.T.Archive.spelling g.met.T.Archive.spells
