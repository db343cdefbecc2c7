use Rattle.std.proofs.Common.{sym, ap}
use Rattle.std.specs.Hash.{fed_then, fed_along}
use Rattle.std.specs.Hash as fed
use Rattle.std.specs.Prelude.{pos}
use Rattle.archive_forms_comparing.proofs.hashing.result.ArchivedResultArchivedHash.hash.Goals as goal

pub returns-in-Ok : goal.returns-in-Ok
returns-in-Ok g c = λ v h.
    let x = c.in-Ok.ensures.each v h in
    fed_along g.H.Hasher.write _ _ (sym (ap (fed.result g.T.ArchivedHash.hashed g.E.ArchivedHash.hashed) x.1))
    (fed_then g.H.Hasher.write _ _ _ (fed.isize (pos 0)) (g.T.ArchivedHash.hashed x.0) c.write_isize.ensures (c.hash.ensures x.0 x.2))

pub returns-in-Err : goal.returns-in-Err
returns-in-Err g c = λ v h.
    let x = c.in-Err.ensures.each v h in
    fed_along g.H.Hasher.write _ _ (sym (ap (fed.result g.T.ArchivedHash.hashed g.E.ArchivedHash.hashed) x.1))
    (fed_then g.H.Hasher.write _ _ _ (fed.isize (pos 1)) (g.E.ArchivedHash.hashed x.0) c.write_isize-in-Err.ensures (c.hash-in-Err.ensures x.0 x.2))
