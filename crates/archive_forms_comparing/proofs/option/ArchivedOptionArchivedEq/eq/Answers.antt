use Rattle.std.proofs.Common.{sym}
use Rattle.std.specs.Option.{option_eq}
use Rattle.archive_forms_laws.specs.Orders.{option_equality}
use Rattle.archive_forms_comparing.proofs.Seen.{by_parts}
use Rattle.archive_forms_comparing.proofs.option.ArchivedOptionArchivedEq.eq.Goals as goal

pub returns-in-Some-Some : goal.returns-in-Some-Some
returns-in-Some-Some g c =
    let f = g.T.ArchivedEq.equal in
    by_parts f (option_equality f) (λ v w x y e d. sym (λ i. option_eq f (e i) (d i))) c.in-Some-Some.ensures c.in-Some-Some.ensures' c.eq.ensures
