-- The values that archived arrays have in the layout.
use Rattle.std.specs.Prelude.{ℕ, List}
use Rattle.archive_shape_layout.specs.Shape.{Shape}
use Rattle.archive_shape_layout.specs.Shape.Shape.{array}
use Rattle.archive_shape_layout.specs.Value.{Value}
use Rattle.archive_shape_layout.specs.Content.{Names}
use Rattle.archive_shape.specs.Key.{HeldAt}
use Rattle.archive_forms_values.specs.Parts.{AreElements}

-- each value that the array of n elements at a position has is that of its elements, which are adjacent from there on
abbrev pub IsArrayAt : ℕ → Shape → (Names → Type 0) → List ℕ → ℕ → Type 0
IsArrayAt n s knows bytes pos = (v : Value) → HeldAt (array n s) knows bytes pos v → AreElements s knows bytes pos n v
