-- A root that is known to exist is found.
use Rattle.std.specs.Prelude.{ℕ, List}
use Rattle.archive_shape_layout.specs.Shape.{Shape}
use Rattle.archive_shape_layout.specs.Value.{Value}
use Rattle.archive_shape_layout.specs.Content.{Names}
use Rattle.archive_shape_layout.specs.Holds.{Region, Visit, HasRoot}

-- a buffer has some value of the shape at a position, as its root
pub record Root (names : Names) (bytes : List ℕ) (pos : ℕ) (s : Shape) : Type 0 where
  pub value : Value
  pub regions : List Region
  pub visits : List Visit
  pub root : HasRoot names bytes pos s value regions visits

-- where a root is known to exist, without its value being known, it is found
abbrev pub RootIsFound : Type 0
RootIsFound = (names : Names) (bytes : List ℕ) (pos : ℕ) (s : Shape) → ∥ Root names bytes pos s ∥₁ → Root names bytes pos s
