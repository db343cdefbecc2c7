use Rattle.std.proofs.Common.{ap}
use Rattle.std.specs.Hash.{fed_along}
use Rattle.std.specs.Hash as fed
use Rattle.archive_forms_laws.specs.Views.{natural_of}
use Rattle.archive_forms_comparing.proofs.hashing.leaf.U8ArchivedHash.hash.Goals as goal

pub returns : goal.returns
returns g c = λ v h. fed_along g.H.Hasher.write _ _ (ap (λ u. fed.u8 (natural_of u)) (c.native_of.ensures v h)) c.hash.ensures
