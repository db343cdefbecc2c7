-- The positions that counted pointers lead to, and the values there.
use Rattle.std.specs.Prelude.{◌≡◌, ℕ, ◌+◌, ◌≤◌, Bool, true, List, length, IsUtf8, ⊤}
use Rattle.archive_shape_layout.specs.Bytes.{window}
use Rattle.archive_shape_layout.specs.Shape.{Shape, Pointee}
use Rattle.archive_shape_layout.specs.Shape.Shape.{shared}
use Rattle.archive_shape_layout.specs.Shape.Pointee.{sized, slice, str}
use Rattle.archive_shape_layout.specs.Value.{Value}
use Rattle.archive_shape_layout.specs.Value.Value.{string, counted, back}
use Rattle.archive_shape_layout.specs.Content.{Names}
use Rattle.archive_shape.specs.Key.{HeldAt}
use Rattle.archive_forms_values.specs.Parts.{PointsTo, AreElements}

-- a pointer's value counts one that is where it leads, or leads back to what it lies inside, where its flavor allows
-- cycles
pub data Counts (cyclic : Bool) (to : ℕ) (IsThere : Value → Type 0) (v : Value) : Type 0 where
  counts : {w : Value} → v ≡ counted to w → IsThere w → Counts cyclic to IsThere v
  leads_back : cyclic ≡ true → v ≡ back to → Counts cyclic to IsThere v

module _ (cyclic : Bool) (p : Pointee) (knows : Names → Type 0) (bytes : List ℕ) (pos : ℕ) where
  -- of each value that the pointer has
  abbrev pub CountsAt : ℕ → (Value → Type 0) → Type 0
  CountsAt to IsThere = (v : Value) → HeldAt (shared cyclic p) knows bytes pos v → Counts cyclic to IsThere v

  -- it has a value that counts another
  pub record HasCounted : Type 0 where
    pub target : ℕ
    pub value : Value
    pub held : HeldAt (shared cyclic p) knows bytes pos (counted target value)

module _ (cyclic : Bool) (s : Shape) (knows : Names → Type 0) (bytes : List ℕ) (pos to : ℕ) where
  -- the pointer at a position leads to another position, where the value is that it counts
  pub record IsRcAt : Type 0 where
    pub points : PointsTo bytes pos to
    pub value : CountsAt cyclic (sized s) knows bytes pos to (HeldAt s knows bytes to)

  -- where the n elements of the value begin
  pub record IsRcSliceAt (len : ℕ) : Type 0 where
    pub points : PointsTo bytes pos to
    pub value : CountsAt cyclic (slice s) knows bytes pos to (AreElements s knows bytes to len)

-- where the n bytes of the text begin
pub record IsRcStrAt (cyclic : Bool) (bytes : List ℕ) (pos to len : ℕ) : Type 0 where
  pub points : PointsTo bytes pos to
  pub within : to + len ≤ length bytes
  pub is_text : IsUtf8 (window bytes to len)
  pub value : CountsAt cyclic str (λ _. ⊤) bytes pos to (λ w. w ≡ string (window bytes to len))
