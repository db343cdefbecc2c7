use Rattle.std.proofs.Common.{sym, ap}
use Rattle.std.specs.Hash.{fed_along}
use Rattle.archive_forms_laws.specs.Orders.{no_fields_hashed, more_fields_hashed, tuple_hashed}
use Rattle.archive_forms_comparing.proofs.hashing.entry.EntryArchivedHash.hash.Goals as goal

pub returns : goal.returns
returns g c = λ v h.
    let f = tuple_hashed (more_fields_hashed g.K.ArchivedHash.hashed (more_fields_hashed g.V.ArchivedHash.hashed no_fields_hashed)) in
    let x = c.tuple_of.ensures.each v h in
    fed_along g.H.Hasher.write _ _ (sym (ap f x.1)) (c.hash.ensures x.0 x.2)
