-- The results of comparisons, by the values that the layout has.
use Rattle.std.specs.Prelude.{◌≡◌, ℕ, ◌+◌, List, ◌∷◌, drop}
use Rattle.archive_shape_layout.specs.Shape.{Shape}
use Rattle.archive_shape_layout.specs.Value.{Value}
use Rattle.archive_shape_layout.specs.Content.{Names}
use Rattle.archive_shape.specs.Key.{HeldAt}
use Rattle.archive_forms_laws.specs.Views.{elements_of}
use Rattle.archive_forms_values.specs.Parts.{HasValue, AreElements}

module _ {X : Type 0} (shape : Shape) (knows : Names → Type 0) (bytes : List ℕ) (pos : ℕ) where
  -- a result is what a function returns for each value at the position
  abbrev pub OfValue : (Value → X) → X → Type 0
  OfValue f result = (v : Value) → HeldAt shape knows bytes pos v → result ≡ f v

  -- a result is what a function returns for two values, regardless of their positions
  abbrev pub OfBoth : List ℕ → ℕ → (Value → Value → X) → X → Type 0
  OfBoth others other_pos f result = (v w : Value) → HeldAt shape knows bytes pos v → HeldAt shape knows others other_pos w → result ≡ f v w

-- a result is what a function returns for the adjacent elements at two positions
abbrev pub OfElements : {X : Type 0} → Shape → (Names → Type 0) → List ℕ → ℕ → ℕ → List ℕ → ℕ → ℕ → (Value → Value → X) → X → Type 0
OfElements shape knows bytes start len others other_start other_len f result =
    (v w : Value)
    → AreElements shape knows bytes start len v
    → AreElements shape knows others other_start other_len w
    → result ≡ f v w

-- each value at a position has a part, as it is seen, and the part is at another position
pub record HasPart (is_part : Value → Value → Type 0) (shape : Shape) (knows : Names → Type 0) (bytes : List ℕ) (pos : ℕ) (part : Shape) (part_knows : Names → Type 0) (part_bytes : List ℕ) (at : ℕ) : Type 0 where
  pub there : HasValue part part_knows part_bytes at
  pub each : (v : Value) → HeldAt shape knows bytes pos v → (x : Value) × is_part v x × HeldAt part part_knows part_bytes at x

-- the element with an index, of adjacent elements, is at a position, and the others follow it
pub record IsElement (shape : Shape) (knows : Names → Type 0) (bytes : List ℕ) (start len : ℕ) (index : ℕ) (element_bytes : List ℕ) (at : ℕ) : Type 0 where
  pub there : HasValue shape knows element_bytes at
  pub each : (v : Value)
      → AreElements shape knows bytes start len v
      → (x : Value) × (drop index (elements_of v) ≡ x ∷ drop (index + 1) (elements_of v)) × HeldAt shape knows element_bytes at x
