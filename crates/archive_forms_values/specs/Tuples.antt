-- The shapes of tuples of one to four fields, by the shapes of the fields.
use Rattle.archive_shape_layout.specs.Shape.{Shape}
use Rattle.archive_shape_layout.specs.Shape.Shape.{tuple}
use Rattle.archive_shape_layout.specs.Shape.Shapes.{no_shapes, more_shapes}

-- of one field
abbrev pub tuple1 : Shape → Shape
tuple1 s = tuple (more_shapes s no_shapes)

-- of two
abbrev pub tuple2 : Shape → Shape → Shape
tuple2 s t = tuple (more_shapes s (more_shapes t no_shapes))

-- of three
abbrev pub tuple3 : Shape → Shape → Shape → Shape
tuple3 s t u = tuple (more_shapes s (more_shapes t (more_shapes u no_shapes)))

-- of four
abbrev pub tuple4 : Shape → Shape → Shape → Shape → Shape
tuple4 s t u v = tuple (more_shapes s (more_shapes t (more_shapes u (more_shapes v no_shapes))))
