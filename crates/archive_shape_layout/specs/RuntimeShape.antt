-- The layout that a shape at run time represents.
use Rattle.std.specs.Int.{w8, w16, w32, w64, w128}
use Rattle.std.specs.Int as numbers
use Rattle.archive_shape_layout.specs.declared.shape.Width.{Width}
use Rattle.archive_shape_layout.specs.declared.shape.Width.TheVariants.{Bits8, Bits16, Bits32, Bits64, Bits128}
use Rattle.archive_shape_layout.specs.declared.shape.Alignment.{Alignment}
use Rattle.archive_shape_layout.specs.declared.shape.Alignment.TheVariants.{One, Two, Four, Eight, Sixteen, ThirtyTwo}
use Rattle.archive_shape_layout.specs.declared.shape.Shape as made
use Rattle.archive_shape_layout.specs.declared.shape.Shapes as several
use Rattle.archive_shape_layout.specs.declared.shape.Pointee as pointed
use Rattle.archive_shape_layout.specs.Shape as layout

abbrev pub width_of : Width → numbers.Width
width_of Bits8 = w8
width_of Bits16 = w16
width_of Bits32 = w32
width_of Bits64 = w64
width_of Bits128 = w128

abbrev pub alignment_of : Alignment → layout.Alignment
alignment_of One = layout.Alignment.one
alignment_of Two = layout.Alignment.two
alignment_of Four = layout.Alignment.four
alignment_of Eight = layout.Alignment.eight
alignment_of Sixteen = layout.Alignment.sixteen
alignment_of ThirtyTwo = layout.Alignment.thirty_two

abbrev mutual
  pub layout_of : made.Shape → layout.Shape
  layout_of (made.Number w signed) = layout.Shape.number (width_of w) signed
  layout_of (made.NonZero w signed) = layout.Shape.nonzero (width_of w) signed
  layout_of made.Truth = layout.Shape.truth
  layout_of made.Character = layout.Shape.character
  layout_of made.Text = layout.Shape.text
  layout_of (made.Tuple ss) = layout.Shape.tuple (shapes_of ss)
  layout_of (made.Array' n p s) = layout.Shape.array n (layout_of s)
  layout_of (made.Option' p s) = layout.Shape.option (layout_of s)
  layout_of (made.Result' p s q t) = layout.Shape.result (layout_of s) (layout_of t)
  layout_of (made.Choice ss) = layout.Shape.choice (shapes_of ss)
  layout_of (made.Boxed p) = layout.Shape.box (pointee_of p)
  layout_of (made.Vector' p s) = layout.Shape.vector (layout_of s)
  layout_of (made.Shared cyclic p) = layout.Shape.shared cyclic (pointee_of p)
  layout_of (made.Weak cyclic p) = layout.Shape.weak cyclic (pointee_of p)
  layout_of (made.Tree' n p s q t) = layout.Shape.tree n (layout_of s) (layout_of t)
  layout_of (made.Table' p s) = layout.Shape.table (layout_of s)
  layout_of (made.IndexMap' p s q t) = layout.Shape.index_map (layout_of s) (layout_of t)
  layout_of (made.Named n size a) = layout.Shape.named n size (alignment_of a)

  pub shapes_of : several.Shapes → layout.Shapes
  shapes_of several.Empty = layout.Shapes.no_shapes
  shapes_of (several.Another' p s q ss) = layout.Shapes.more_shapes (layout_of s) (shapes_of ss)

  pub pointee_of : pointed.Pointee → layout.Pointee
  pointee_of (pointed.Sized' p s) = layout.Pointee.sized (layout_of s)
  pointee_of (pointed.Slice' p s) = layout.Pointee.slice (layout_of s)
  pointee_of pointed.Text = layout.Pointee.str
