use Rattle.std.proofs.Common.{ap}
use Rattle.std.specs.Hash.{fed_along}
use Rattle.std.specs.Hash as fed
use Rattle.archive_forms_comparing.proofs.hashing.text.ArchivedBoxedStrArchivedHash.hash.Goals as goal

pub returns : goal.returns
returns g c = λ v h. fed_along g.H.Hasher.write _ _ (ap fed.str (c.boxed_text.ensures v h)) c.hash.ensures
