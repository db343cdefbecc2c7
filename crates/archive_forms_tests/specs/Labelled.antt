-- A number beside a text, if there is one: its layout, and how it is compared and hashed.
use Rattle.std.specs.Prelude.{false, ⊤}
use Rattle.std.specs.Int.{w32}
use Rattle.archive_shape_layout.specs.Shape.{Shape}
use Rattle.archive_shape_layout.specs.Shape.Shape.{number, text, option}
use Rattle.archive_shape_layout.specs.Content.{Names}
use Rattle.archive_forms_values.specs.Tuples.{tuple2}
use Rattle.archive_forms_laws.specs.Orders.{Equality, Order, Hashed, natural_equality, natural_order, text_equality, text_order, text_hashed, option_equality, option_order, option_hashed, no_fields_equality, no_fields_order, no_fields_hashed, more_fields_equality, more_fields_order, more_fields_hashed, tuple_equality, tuple_order, tuple_hashed}

abbrev pub labelled_shape : Shape
labelled_shape = option (tuple2 (number w32 false) text)

abbrev pub KnowsLabelled : Names → Type 0
KnowsLabelled _ = ⊤ × ⊤

abbrev pub labelled_equality : Equality
labelled_equality = option_equality (tuple_equality (more_fields_equality natural_equality (more_fields_equality text_equality no_fields_equality)))

abbrev pub labelled_order : Order
labelled_order = option_order (tuple_order (more_fields_order natural_order (more_fields_order text_order no_fields_order)))

-- by what is hashed of the number
abbrev pub labelled_hashed : Hashed → Hashed
labelled_hashed F = option_hashed (tuple_hashed (more_fields_hashed F (more_fields_hashed text_hashed no_fields_hashed)))
