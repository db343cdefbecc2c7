use Rattle.std.proofs.Common.{ap, ◌∙◌}
use Rattle.std.specs.Hash.{fed_along}
use Rattle.archive_forms_comparing.proofs.hashing.leaf.LittleEndianArchivedHash.hash.Goals as goal

pub returns : goal.returns
returns g c = λ v h. fed_along g.H.Hasher.write _ _ (g.met.N.ComparedNative.hashed_by_value _ ∙ ap g.N.ComparedNative.hashed (c.native_of.ensures v h)) c.hash.ensures
