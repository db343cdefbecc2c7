-- The layout of maps of texts to numbers.
use Rattle.std.specs.Prelude.{false, ⊤}
use Rattle.std.specs.Int.{w64}
use Rattle.archive_shape_layout.specs.Shape.{Shape}
use Rattle.archive_shape_layout.specs.Shape.Shape.{number, text, table}
use Rattle.archive_shape_layout.specs.Content.{Names}
use Rattle.archive_forms_values.specs.Tuples.{tuple2}
use Rattle.archive_forms_values.specs.Parts.{both}

abbrev pub text_shape : Shape
text_shape = text

abbrev pub number_shape : Shape
number_shape = number w64 false

abbrev pub entry_shape : Shape
entry_shape = tuple2 text_shape number_shape

abbrev pub map_shape : Shape
map_shape = table entry_shape

-- no names are in it
abbrev pub known : Names → Type 0
known _ = ⊤

abbrev pub entry_known : Names → Type 0
entry_known = both known known
