use Rattle.std.proofs.Common.{◌∙◌, ap, ap₂}
use Rattle.archive_forms_laws.specs.Orders.{Order, option_order, no_fields_order, more_fields_order, tuple_order}
use Rattle.archive_forms_tests.proofs.comparing.by_parts.labelled_are_ordered_by_parts.Goals as goal

pub returns : goal.returns
returns c =
    let of_two : Order → Order → Order = λ R S. tuple_order (more_fields_order R (more_fields_order S no_fields_order)) in
    c.forms_are_ordered_by_parts.ensures.options ∙ ap option_order (c.tuples_are_ordered_by_fields.ensures.of_two ∙ ap₂ of_two c.leaves_are_ordered_by_value.ensures.numbers c.texts_are_compared_by_bytes.ensures.order)
