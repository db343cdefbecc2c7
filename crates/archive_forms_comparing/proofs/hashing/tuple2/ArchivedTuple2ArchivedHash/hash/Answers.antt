use Rattle.std.proofs.Common.{sym, refl, [], ◌++◌}
use Rattle.std.specs.Hash.{fed_then, fed_along}
use Rattle.archive_forms_comparing.proofs.hashing.tuple2.ArchivedTuple2ArchivedHash.hash.Goals as goal

pub returns : goal.returns
returns g c = λ v h.
    let x = c.first_of.ensures.each v h in
    let y = c.second_of.ensures.each v h in
    fed_along g.H.Hasher.write _ _ (sym (λ i. (g.A.ArchivedHash.hashed (x.1 i) ++ (g.B.ArchivedHash.hashed (y.1 i) ++ []))))
    (fed_then g.H.Hasher.write _ _ _ (g.A.ArchivedHash.hashed x.0) ((g.B.ArchivedHash.hashed y.0) ++ []) (c.hash.ensures x.0 x.2) (fed_then g.H.Hasher.write _ _ _ (g.B.ArchivedHash.hashed y.0) [] (c.hash-2.ensures y.0 y.2) refl))
