use Rattle.std.proofs.Common.{sym}
use Rattle.archive_forms_comparing.proofs.Seen.{by_parts}
use Rattle.archive_forms_comparing.proofs.boxed.ArchivedBoxArchivedOrd.cmp.Goals as goal

pub returns : goal.returns
returns g c =
    let f = g.T.ArchivedOrd.order in
    by_parts f f (λ v w x y e d. sym (λ i. f (e i) (d i))) c.box_value.ensures c.box_value-2.ensures c.cmp.ensures
