use Rattle.std.proofs.Common.{◌∙◌, ap, ap₂}
use Rattle.archive_forms_laws.specs.Orders.{Hashed, option_hashed, no_fields_hashed, more_fields_hashed, tuple_hashed}
use Rattle.archive_forms_tests.proofs.comparing.by_parts.labelled_are_hashed_by_parts.Goals as goal

pub returns : goal.returns
returns c =
    let of_two : Hashed → Hashed → Hashed = λ F G. tuple_hashed (more_fields_hashed F (more_fields_hashed G no_fields_hashed)) in
    c.forms_are_hashed_by_parts.ensures.options ∙ ap option_hashed (c.tuples_are_hashed_by_fields.ensures.of_two ∙ ap₂ of_two c.leaves_are_hashed_by_value.ensures.numbers c.texts_are_compared_by_bytes.ensures.hashed)
