-- The layout of a type that holds itself: a name, and the shape that it denotes.
use Rattle.std.specs.Prelude.{◌≡◌, Some}
use Rattle.archive_shape_layout.specs.Shape.{Shape}
use Rattle.archive_shape_layout.specs.Shape.Alignment.{four}
use Rattle.archive_shape_layout.specs.Shape.Shape.{option, box, named}
use Rattle.archive_shape_layout.specs.Shape.Pointee.{sized}
use Rattle.archive_shape_layout.specs.Content.{Names, shape_named}

-- a list that ends, or leads to another
abbrev pub list_shape : Shape
list_shape = named 1 8 four

abbrev pub list_body : Shape
list_body = option (box (sized list_shape))

abbrev pub KnowsList : Names → Type 0
KnowsList names = shape_named names 1 ≡ Some list_body
