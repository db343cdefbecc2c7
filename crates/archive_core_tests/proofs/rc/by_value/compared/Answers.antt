use Rattle.std.proofs.Common.{◌∙◌, ap}
use Rattle.archive_forms_laws.specs.Orders.{Equality, Order}
use Rattle.archive_core_tests.proofs.rc.by_value.compared.Goals as goal

pub returns-clause-equal : goal.returns-clause-equal
returns-clause-equal c = λ v w here there. c.eq.ensures v w here there ∙ ap (λ (E : Equality). E v w) c.counted_are_equal_by_value.ensures.values

pub returns-clause-order : goal.returns-clause-order
returns-clause-order c = λ v w here there. c.cmp.ensures v w here there ∙ ap (λ (R : Order). R v w) c.counted_are_ordered_by_value.ensures.values
