use Rattle.std.proofs.Common.{sym}
use Rattle.std.specs.Option.{option_cmp}
use Rattle.archive_forms_laws.specs.Orders.{option_order}
use Rattle.archive_forms_comparing.proofs.Seen.{by_parts}
use Rattle.archive_forms_comparing.proofs.option.ArchivedOptionArchivedOrd.cmp.Goals as goal

pub returns-in-Some-Some : goal.returns-in-Some-Some
returns-in-Some-Some g c =
    let f = g.T.ArchivedOrd.order in
    by_parts f (option_order f) (λ v w x y e d. sym (λ i. option_cmp f (e i) (d i))) c.in-Some-Some.ensures c.in-Some-Some.ensures' c.cmp.ensures

pub returns-in-None-Some : goal.returns-in-None-Some
returns-in-None-Some g c = λ v w h k.
    let f = g.T.ArchivedOrd.order in
    sym (λ i. option_cmp f (c.in-None-Some.ensures v h i) ((c.in-None-Some.ensures'.each w k).1 i))
