use Rattle.std.proofs.Common.{ap}
use Rattle.std.specs.Hash.{fed_along}
use Rattle.std.specs.Hash as fed
use Rattle.archive_forms_comparing.proofs.hashing.text.ArchivedStringArchivedHash.hash.Goals as goal

pub returns : goal.returns
returns g c = λ v h. fed_along g.H.Hasher.write _ _ (ap fed.str (c.text_at.ensures v h)) c.hash.ensures
