-- The positions that the boxes of slices and of texts lead to, and the values there.
use Rattle.std.specs.Prelude.{◌≡◌, ℕ, ◌+◌, ◌*◌, ◌≤◌, List, length, IsUtf8, ⊤}
use Rattle.archive_shape_layout.specs.Bytes.{window}
use Rattle.archive_shape_layout.specs.Shape.{Shape, size_of}
use Rattle.archive_shape_layout.specs.Shape.Shape.{box}
use Rattle.archive_shape_layout.specs.Shape.Pointee.{slice, str}
use Rattle.archive_shape_layout.specs.Value.{Value}
use Rattle.archive_shape_layout.specs.Value.Value.{string}
use Rattle.archive_shape_layout.specs.Content.{Names}
use Rattle.archive_shape.specs.Key.{HeldAt}
use Rattle.archive_forms_values.specs.Parts.{HasValue, PointsTo, AreElements}

-- the box of a slice at a position leads to another position, where its n elements begin; they end before the box
pub record IsBoxedSliceAt (s : Shape) (knows : Names → Type 0) (bytes : List ℕ) (pos to len : ℕ) : Type 0 where
  pub points : PointsTo bytes pos to
  pub before : HasValue (box (slice s)) knows bytes pos → to + len * size_of s ≤ pos
  pub value : (v : Value) → HeldAt (box (slice s)) knows bytes pos v → AreElements s knows bytes to len v

-- the box of a text at a position leads to another position, where the n bytes of the text begin; they end before the
-- box
pub record IsBoxedStrAt (bytes : List ℕ) (pos to len : ℕ) : Type 0 where
  pub points : PointsTo bytes pos to
  pub before : to + len ≤ pos
  pub within : to + len ≤ length bytes
  pub is_text : IsUtf8 (window bytes to len)
  pub value : (v : Value) → HeldAt (box str) (λ _. ⊤) bytes pos v → v ≡ string (window bytes to len)
