-- The layout of a value that leads to a value of the same type: a name, and the counted pointer that it denotes.
use Rattle.std.specs.Prelude.{◌≡◌, Bool, Some}
use Rattle.archive_shape_layout.specs.Shape.{Shape}
use Rattle.archive_shape_layout.specs.Shape.Alignment.{four}
use Rattle.archive_shape_layout.specs.Shape.Shape.{shared, named}
use Rattle.archive_shape_layout.specs.Shape.Pointee.{sized}
use Rattle.archive_shape_layout.specs.Content.{Names, shape_named}

abbrev pub loop_shape : Shape
loop_shape = named 1 4 four

-- of a flavor that allows cycles or forbids them
abbrev pub loop_body : Bool → Shape
loop_body cycles = shared cycles (sized loop_shape)

abbrev pub KnowsLoop : Bool → Names → Type 0
KnowsLoop cycles names = shape_named names 1 ≡ Some (loop_body cycles)
