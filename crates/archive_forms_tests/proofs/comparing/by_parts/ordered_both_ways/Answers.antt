use Rattle.std.specs.Ordering.{ordering_reverse}
use Rattle.std.specs.declared.cmp.Ordering.{Ordering}
use Rattle.std.proofs.Common.{◌≡◌, ◌∙◌, sym, ap}
use Rattle.archive_shape_layout.specs.Value.{Value}
use Rattle.archive_forms_laws.specs.Orders.{Order}
use Rattle.archive_forms_tests.specs.Labelled.{labelled_order}
use Rattle.archive_forms_tests.proofs.comparing.by_parts.ordered_both_ways.Goals as goal

-- what one order returns, another does that is the same
told : (R S : Order) → R ≡ S → (result : Ordering) (v w : Value) → result ≡ R v w → result ≡ S v w
told R S same result v w is = is ∙ ap (λ T. T v w) same

pub returns-clause-order : goal.returns-clause-order
returns-clause-order c = λ v w here there. told _ labelled_order c.labelled_are_ordered_by_parts.ensures _ v w (c.cmp.ensures v w here there)

pub returns-clause-turned : goal.returns-clause-turned
returns-clause-turned c =
    let this = c.requires.this in
    let other = c.requires.other in
    let laws = c.orders_are_total.ensures in
    let total = laws.options _ (laws.tuples _ (laws.more_fields _ _ laws.naturals (laws.more_fields _ _ laws.texts laws.no_fields))) in
    let one = told _ labelled_order c.labelled_are_ordered_by_parts.ensures _ this.value other.value (c.cmp.ensures this.value other.value this.held other.held) in
    let turned = told _ labelled_order c.labelled_are_ordered_by_parts.ensures _ other.value this.value (c.cmp-2.ensures other.value this.value other.held this.held) in
    turned ∙ total.antisymm other.value this.value ∙ sym (ap ordering_reverse one)
