-- The fields of tuples: their positions and their values.
use Rattle.std.specs.Prelude.{◌≡◌, ℕ, ◌+◌, List, [], ◌∷◌}
use Rattle.archive_shape_layout.specs.Bytes.{align_up}
use Rattle.archive_shape_layout.specs.Shape.{Shape, Shapes, size_of, align_of, fields_end}
use Rattle.archive_shape_layout.specs.Shape.Shape.{tuple}
use Rattle.archive_shape_layout.specs.Shape.Shapes.{no_shapes, more_shapes}
use Rattle.archive_shape_layout.specs.Value.{Value, Values}
use Rattle.archive_shape_layout.specs.Value.Value.{group}
use Rattle.archive_shape_layout.specs.Value.Values.{no_values, more_values}
use Rattle.archive_shape_layout.specs.Content.{Names}
use Rattle.archive_shape.specs.Key.{HeldAt}

-- ---- the positions of fields

-- the position of a field of a tuple at a position: after the first field, which is at the tuple's position, and those
-- between
abbrev pub field_position : Shape → Shapes → Shape → ℕ → ℕ
field_position first between s pos = pos + align_up (fields_end between (size_of first)) (align_of s)

-- that of the second field, the third and the fourth, by the shapes of the fields up to it
abbrev pub second_position : (s t : Shape) → ℕ → ℕ
second_position s t pos = field_position s no_shapes t pos

abbrev pub third_position : (s t u : Shape) → ℕ → ℕ
third_position s t u pos = field_position s (more_shapes t no_shapes) u pos

abbrev pub fourth_position : (s t u v : Shape) → ℕ → ℕ
fourth_position s t u v pos = field_position s (more_shapes t (more_shapes u no_shapes)) v pos

-- ---- their values

-- a field: its shape, and the lists of names that its type is read under
pub record Field : Type 1 where
  pub shape : Shape
  pub knows : Names → Type 0

abbrev pub field : Shape → (Names → Type 0) → Field
field s knows = record { shape = s; knows = knows }

abbrev pub shapes_of : List Field → Shapes
shapes_of [] = no_shapes
shapes_of (f ∷ fs) = more_shapes f.shape (shapes_of fs)

-- the first of some values is that of a field at a position, and the others are as `Others` says
pub record BeginsWith (f : Field) (bytes : List ℕ) (at : ℕ) (Others : Values → Type 0) (values : Values) : Type 0 where
  pub first : Value
  pub others : Values
  pub is : values ≡ more_values first others
  pub held : HeldAt f.shape f.knows bytes at first
  pub rest : Others others

-- values are those of fields, each at the first multiple of its alignment from the end of the one before
abbrev pub AreBehind : List Field → List ℕ → (pos end : ℕ) → Values → Type 0
AreBehind [] bytes pos end values = values ≡ no_values
AreBehind (f ∷ fs) bytes pos end values =
    let from = align_up end (align_of f.shape) in BeginsWith f bytes (pos + from) (AreBehind fs bytes pos (from + size_of f.shape)) values

-- values are those of fields, of which the first is at a position
abbrev pub AreFields : List Field → List ℕ → ℕ → Values → Type 0
AreFields [] bytes pos values = values ≡ no_values
AreFields (f ∷ fs) bytes pos values = BeginsWith f bytes pos (AreBehind fs bytes pos (size_of f.shape)) values

-- a value is the group of the values of fields
pub record IsGroupOf (fs : List Field) (bytes : List ℕ) (pos : ℕ) (value : Value) : Type 0 where
  pub values : Values
  pub is : value ≡ group values
  pub each : AreFields fs bytes pos values

-- each value that the tuple at a position has is that of its fields
abbrev pub AreFieldsAt : List Field → (Names → Type 0) → List ℕ → ℕ → Type 0
AreFieldsAt fs knows bytes pos = (v : Value) → HeldAt (tuple (shapes_of fs)) knows bytes pos v → IsGroupOf fs bytes pos v

-- a list of names is known to all three, and to all four
abbrev pub all_three : (knows others further : Names → Type 0) → Names → Type 0
all_three knows others further names = knows names × others names × further names

abbrev pub all_four : (knows others further last : Names → Type 0) → Names → Type 0
all_four knows others further last names = knows names × others names × further names × last names
