-- What a buffer has at its root.
use Rattle.std.specs.Prelude.{◌≡◌, ℕ, List, length}
use Rattle.archive_shape_layout.specs.Shape.{Shape}
use Rattle.archive_shape_layout.specs.Value.{Value}
use Rattle.archive_shape_layout.specs.Content.{Names}
use Rattle.archive_shape_layout.specs.Holds.{Region, Visit, HasRoot, root_position}

-- a buffer of a size has its root at a position, where it holds a value and claims regions, in this order
pub record HoldsAtRoot (names : Names) (shape : Shape) (bytes : List ℕ) (size pos : ℕ) (value : Value) (regions : List Region) : Type 0 where
  pub has_size : length bytes ≡ size
  pub has_position : root_position size shape ≡ pos
  pub visits : List Visit
  pub has_root : HasRoot names bytes pos shape value regions visits

-- a buffer of a size has its root at a position, and holds no value there
pub record HoldsNothing (names : Names) (shape : Shape) (bytes : List ℕ) (size pos : ℕ) : Type 0 where
  pub has_size : length bytes ≡ size
  pub has_position : root_position size shape ≡ pos
  pub has_no_root : (value : Value) (regions : List Region) (visits : List Visit) → ¬ (HasRoot names bytes pos shape value regions visits)
