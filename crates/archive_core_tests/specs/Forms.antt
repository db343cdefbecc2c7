-- The layouts of forms whose parts are looked at.
use Rattle.std.specs.Prelude.{false, ⊤}
use Rattle.std.specs.Int.{w8, w16, w32, w64}
use Rattle.archive_shape_layout.specs.Shape.{Shape}
use Rattle.archive_shape_layout.specs.Shape.Shape.{number, option, result, box, shared}
use Rattle.archive_shape_layout.specs.Shape.Pointee.{sized, str}
use Rattle.archive_shape_layout.specs.Content.{Names}
use Rattle.archive_forms_values.specs.Tuples.{tuple2}

-- a number in a box, if there is one, or a fault
abbrev pub boxed_shape : Shape
boxed_shape = result (option (box (sized (number w64 false)))) (number w8 false)

abbrev pub KnowsBoxed : Names → Type 0
KnowsBoxed _ = ⊤ × ⊤

-- a number beside a greater one
abbrev pub pair_shape : Shape
pair_shape = tuple2 (number w16 false) (number w32 false)

-- a number and a text behind counted pointers
abbrev pub counted_number : Shape
counted_number = shared false (sized (number w32 false))

abbrev pub counted_text : Shape
counted_text = shared false str
