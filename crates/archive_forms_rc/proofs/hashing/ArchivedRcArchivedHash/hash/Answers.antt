use Rattle.std.proofs.Common.{sym, ap}
use Rattle.std.specs.Hash.{fed_along}
use Rattle.archive_forms_rc.proofs.hashing.ArchivedRcArchivedHash.hash.Goals as goal

pub returns : goal.returns
returns g c = λ v h.
    let x = c.rc_value.ensures.each v h in
    fed_along g.H.Hasher.write _ _ (sym (ap g.T.ArchivedHash.hashed x.1)) (c.hash.ensures x.0 x.2)
