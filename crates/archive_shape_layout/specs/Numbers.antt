-- What the bytes of a number, bool or char represent.
use Rattle.std.specs.Prelude.{◌≡◌, ℕ, ◌<◌, ◌↔◌, Bool, true, false, IsTrue, List, [], ◌∷◌, slice_index, ⊤}
use Rattle.std.specs.Int.{from_le_bytes}
use Rattle.archive_shape_layout.specs.Bytes.{window, word_at}
use Rattle.archive_shape_layout.specs.Shape.{Shape, size_of}
use Rattle.archive_shape_layout.specs.Shape.Shape.{number, nonzero, truth, character}
use Rattle.archive_shape_layout.specs.Value.{Value}
use Rattle.archive_shape_layout.specs.Content.{Names, shape_content, is_scalar}
use Rattle.archive_shape_layout.specs.Content.Content.{illegal, plain}
use Rattle.archive_shape_layout.specs.Content.Label.{leaf}
use Rattle.archive_shape_layout.specs.Content.Part.{at}
use Rattle.archive_shape_layout.specs.Holds.{Holds, Region, Visit, OpenShared}
use Rattle.archive_shape_layout.specs.Laws.{Agree}

-- the shapes of numbers, truth values and chars
abbrev pub IsLeafShape : Shape → Type 0
IsLeafShape (number w signed) = ⊤
IsLeafShape (nonzero w signed) = ⊤
IsLeafShape truth = ⊤
IsLeafShape character = ⊤
IsLeafShape _ = ⊥

-- at every position, these own bytes of a value of the shape represent this value, which has no parts
abbrev pub Reads : Shape → List ℕ → Value → Type 0
Reads shape own value = (names : Names) (pos : ℕ) → shape_content names pos own shape ≡ plain (leaf value) []

-- some value of the shape has these as its own bytes
pub record IsReadable (shape : Shape) (own : List ℕ) : Type 0 where
  pub value : Value
  pub reads : Reads shape own value

-- which own bytes are legal: all of a number's, those of 0 left out where it is not 0, 0 and 1 for a truth value, and
-- for a char those of its codes
abbrev pub AreLegal : Shape → List ℕ → Type 0
AreLegal (number w signed) own = ⊤
AreLegal (nonzero w signed) own = 0 < from_le_bytes w own
AreLegal truth own = slice_index own 0 < 2
AreLegal character own = IsTrue (is_scalar (word_at own 0))
AreLegal _ own = ⊥

-- no value of the shape has these as its own bytes
abbrev pub IsIllegal : Shape → List ℕ → Type 0
IsIllegal shape own = (names : Names) (pos : ℕ) → shape_content names pos own shape ≡ illegal

-- own bytes are legal exactly where some value has them
abbrev pub LegalIsReadable : Type 0
LegalIsReadable = (shape : Shape) (own : List ℕ) → IsLeafShape shape → AreLegal shape own ↔ IsReadable shape own

-- where own bytes represent a value without parts, the layout has that value there and no other, claims nothing and
-- visits nothing
abbrev pub LeafIsRead : Type 0
LeafIsRead =
    (shape : Shape) (bytes : List ℕ) (pos : ℕ) (value : Value)
    → Reads shape (window bytes pos (size_of shape)) value
    → (names : Names) (level : ℕ) (inside : List OpenShared) (read : Value) (regions : List Region) (before after : List Visit)
    → Holds names bytes level inside (at pos shape) read regions before after ↔ Agree read value regions [] after before

-- where the layout has a value without parts, the own bytes represent it
abbrev pub HeldLeafIsRead : Type 0
HeldLeafIsRead =
    (shape : Shape) (bytes : List ℕ) (pos : ℕ) (value : Value)
    → IsLeafShape shape
    → (names : Names) (level : ℕ) (inside : List OpenShared) (regions : List Region) (before after : List Visit)
    → Holds names bytes level inside (at pos shape) value regions before after
    → Reads shape (window bytes pos (size_of shape)) value

-- where the own bytes are not legal, the layout has no value
abbrev pub IllegalIsRefused : Type 0
IllegalIsRefused =
    (shape : Shape) (bytes : List ℕ) (pos : ℕ)
    → IsIllegal shape (window bytes pos (size_of shape))
    → (names : Names) (level : ℕ) (inside : List OpenShared) (value : Value) (regions : List Region) (before after : List Visit)
    → Holds names bytes level inside (at pos shape) value regions before after → ⊥

-- the byte of a truth value
abbrev pub truth_bytes : Bool → List ℕ
truth_bytes false = 0 ∷ []
truth_bytes true = 1 ∷ []
