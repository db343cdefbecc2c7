-- What weak pointers lead to.
use Rattle.std.specs.Prelude.{◌≡◌, ℕ, ◌+◌, Bool, List}
use Rattle.archive_shape_layout.specs.Shape.{Pointee}
use Rattle.archive_shape_layout.specs.Shape.Shape.{shared, weak}
use Rattle.archive_shape_layout.specs.Value.{Value}
use Rattle.archive_shape_layout.specs.Value.Value.{chosen}
use Rattle.archive_shape_layout.specs.Value.Values.{no_values, more_values}
use Rattle.archive_shape_layout.specs.Content.{Names}
use Rattle.archive_shape.specs.Key.{HeldAt}

module _ (cyclic : Bool) (p : Pointee) (knows : Names → Type 0) (bytes : List ℕ) (pos : ℕ) where
  -- the pointer at a position leads to nothing
  abbrev pub IsNothingAt : Type 0
  IsNothingAt = (v : Value) → HeldAt (weak cyclic p) knows bytes pos v → v ≡ chosen 0 no_values

  -- a value is that of the counted pointer after the tag
  pub record OfPointer (v : Value) : Type 0 where
    pub pointer : Value
    pub is : v ≡ chosen 1 (more_values pointer no_values)
    pub held : HeldAt (shared cyclic p) knows bytes (pos + 4) pointer

  -- it leads where the counted pointer does
  abbrev pub IsPointerAt : Type 0
  IsPointerAt = (v : Value) → HeldAt (weak cyclic p) knows bytes pos v → OfPointer v
