-- Which queries the keys at positions represent, by the values that the layout has there.
use Rattle.std.specs.Prelude.{ℕ, List}
use Rattle.archive_shape_layout.specs.Shape.{Shape}
use Rattle.archive_shape_layout.specs.Value.{Value}
use Rattle.archive_shape_layout.specs.Content.{Names}
use Rattle.archive_shape.specs.Key.{HeldAt}
use Rattle.archive_forms_values.specs.Parts.{HasValue}

-- there is a value of a shape at a position, and each such value represents a query
pub record EachStandsFor (shape : Shape) (knows : Names → Type 0) (bytes : List ℕ) (pos : ℕ) (stands_for : Value → Type 0) : Type 0 where
  pub there : HasValue shape knows bytes pos
  pub each : (v : Value) → HeldAt shape knows bytes pos v → stands_for v
