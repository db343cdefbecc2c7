use Rattle.std.proofs.Common.{◌∙◌, ap, ap₂}
use Rattle.archive_forms_laws.specs.Orders.{Equality, option_equality, no_fields_equality, more_fields_equality, tuple_equality}
use Rattle.archive_forms_tests.proofs.comparing.by_parts.labelled_are_equal_by_parts.Goals as goal

pub returns : goal.returns
returns c =
    let of_two : Equality → Equality → Equality = λ E F. tuple_equality (more_fields_equality E (more_fields_equality F no_fields_equality)) in
    c.forms_are_equal_by_parts.ensures.options ∙ ap option_equality (c.tuples_are_equal_by_fields.ensures.of_two ∙ ap₂ of_two c.leaves_are_equal_by_value.ensures.numbers c.texts_are_compared_by_bytes.ensures.equal)
