use Rattle.std.proofs.Common.{◌≡◌, Err, rules}
use Rattle.cabinet_archived.proofs.writing.fn.serialize_root.serialize_one_each.Goals as goal

pub returns-in_err-resolver : goal.returns-in_err-resolver
returns-in_err-resolver g c = λ st at.
    let is : c.from_residual.result ≡ Err c.in_err-resolver.field-0.0 = search rules in
    rw is (c.in_err-resolver.ensures st at)
