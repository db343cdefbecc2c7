use Rattle.std.proofs.Common.{sym}
use Rattle.archive_forms_laws.specs.Orders.{no_fields_order, more_fields_order, tuple_order}
use Rattle.archive_forms_comparing.proofs.Seen.{by_parts}
use Rattle.archive_forms_comparing.proofs.entry.EntryArchivedOrd.cmp.Goals as goal

pub returns : goal.returns
returns g c =
    let f = tuple_order (more_fields_order g.K.ArchivedOrd.order (more_fields_order g.V.ArchivedOrd.order no_fields_order)) in
    by_parts f f (λ v w x y e d. sym (λ i. f (e i) (d i))) c.tuple_of.ensures c.tuple_of-2.ensures c.cmp.ensures
