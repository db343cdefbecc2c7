use Rattle.std.proofs.Common.{sym, ap}
use Rattle.std.specs.Hash.{fed_then, fed_along}
use Rattle.std.specs.Hash as fed
use Rattle.std.specs.Prelude.{pos}
use Rattle.archive_forms_comparing.proofs.hashing.option.ArchivedOptionArchivedHash.hash.Goals as goal

pub returns-in-None : goal.returns-in-None
returns-in-None g c = λ v h.
    fed_along g.H.Hasher.write _ _ (sym (ap (fed.option g.T.ArchivedHash.hashed) (c.in-None.ensures v h))) c.write_isize.ensures

pub returns-in-Some : goal.returns-in-Some
returns-in-Some g c = λ v h.
    let x = c.in-Some.ensures.each v h in
    fed_along g.H.Hasher.write _ _ (sym (ap (fed.option g.T.ArchivedHash.hashed) x.1))
    (fed_then g.H.Hasher.write _ _ _ (fed.isize (pos 1)) (g.T.ArchivedHash.hashed x.0) c.write_isize-in-Some.ensures (c.hash.ensures x.0 x.2))
