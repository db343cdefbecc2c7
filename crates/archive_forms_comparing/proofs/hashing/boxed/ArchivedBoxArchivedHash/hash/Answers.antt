use Rattle.std.proofs.Common.{sym, ap}
use Rattle.std.specs.Hash.{fed_along}
use Rattle.archive_forms_comparing.proofs.hashing.boxed.ArchivedBoxArchivedHash.hash.Goals as goal

pub returns : goal.returns
returns g c = λ v h.
    let x = c.box_value.ensures.each v h in
    fed_along g.H.Hasher.write _ _ (sym (ap g.T.ArchivedHash.hashed x.1)) (c.hash.ensures x.0 x.2)
