use Rattle.std.proofs.Common.{sym}
use Rattle.archive_forms_comparing.proofs.Seen.{by_parts}
use Rattle.archive_forms_rc.specs.Compared.{counted_equality}
use Rattle.archive_forms_rc.proofs.comparing.ArchivedRcArchivedEq.eq.Goals as goal

pub returns : goal.returns
returns g c =
    let f = g.T.ArchivedEq.equal in
    by_parts f (counted_equality f) (λ v w x y e d. sym (λ i. f (e i) (d i))) c.rc_value.ensures c.rc_value-2.ensures c.eq.ensures
