-- Sizes of types whose values have no bytes.
use Rattle.std.specs.Prelude.{◌≡◌, ◌-◌, ◌^◌, min, refl}
use Rattle.archive_shape_layout.specs.Bytes.{align_up}
use Rattle.archive_shape_layout.specs.Shape.{size_of}
use Rattle.archive_shape_layout.specs.Shape.Shape.{tuple}
use Rattle.archive_shape_layout.specs.Shape.Shapes.{no_shapes}

-- the unit type has no bytes
pub unit_sized : 0 ≡ min (size_of (tuple no_shapes)) (2 ^ 64 - 1)
unfolding align_up
unit_sized = refl
