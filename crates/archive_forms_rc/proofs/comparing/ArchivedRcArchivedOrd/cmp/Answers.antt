use Rattle.std.proofs.Common.{sym}
use Rattle.archive_forms_comparing.proofs.Seen.{by_parts}
use Rattle.archive_forms_rc.specs.Compared.{counted_order}
use Rattle.archive_forms_rc.proofs.comparing.ArchivedRcArchivedOrd.cmp.Goals as goal

pub returns : goal.returns
returns g c =
    let f = g.T.ArchivedOrd.order in
    by_parts f (counted_order f) (λ v w x y e d. sym (λ i. f (e i) (d i))) c.rc_value.ensures c.rc_value-2.ensures c.cmp.ensures
