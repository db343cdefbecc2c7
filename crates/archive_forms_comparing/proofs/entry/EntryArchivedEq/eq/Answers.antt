use Rattle.std.proofs.Common.{sym}
use Rattle.archive_forms_laws.specs.Orders.{no_fields_equality, more_fields_equality, tuple_equality}
use Rattle.archive_forms_comparing.proofs.Seen.{by_parts}
use Rattle.archive_forms_comparing.proofs.entry.EntryArchivedEq.eq.Goals as goal

pub returns : goal.returns
returns g c =
    let f = tuple_equality (more_fields_equality g.K.ArchivedEq.equal (more_fields_equality g.V.ArchivedEq.equal no_fields_equality)) in
    by_parts f f (λ v w x y e d. sym (λ i. f (e i) (d i))) c.tuple_of.ensures c.tuple_of-2.ensures c.eq.ensures
