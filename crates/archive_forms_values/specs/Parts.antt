-- The values that archived forms have in the layout: the positions of their parts, and the values of these.
use Rattle.std.specs.Prelude.{◌≡◌, ℕ, ◌+◌, ◌-◌, ◌*◌, ◌^◌, ◌<◌, ◌≤◌, max, min, List, length, Some}
use Rattle.archive_shape_layout.specs.Bytes.{align_up, word_at, target_from}
use Rattle.archive_shape_layout.specs.Shape.{Shape, align_of, size_of}
use Rattle.archive_shape_layout.specs.Shape.Shape.{option, result, box, vector}
use Rattle.archive_shape_layout.specs.Shape.Pointee.{sized}
use Rattle.archive_shape_layout.specs.Value.{Value, Values, count_values}
use Rattle.archive_shape_layout.specs.Value.Value.{chosen, group}
use Rattle.archive_shape_layout.specs.Value.Values.{no_values, more_values}
use Rattle.archive_shape_layout.specs.Content.{Names}
use Rattle.archive_shape_layout.specs.Path.{value_in}
use Rattle.archive_shape.specs.Key.{HeldAt}

-- bytes have some value of a shape at a position
pub record HasValue (shape : Shape) (knows : Names → Type 0) (bytes : List ℕ) (pos : ℕ) : Type 0 where
  pub value : Value
  pub held : HeldAt shape knows bytes pos value

-- a value is a tag and a payload, and this payload is at a position
pub record HasPayload (tag : ℕ) (shape : Shape) (knows : Names → Type 0) (bytes : List ℕ) (at : ℕ) (value : Value) : Type 0 where
  pub payload : Value
  pub is : value ≡ chosen tag (more_values payload no_values)
  pub held : HeldAt shape knows bytes at payload

-- ---- options

-- the position of the value of an option at a position
abbrev pub some_position : Shape → ℕ → ℕ
some_position s pos = pos + align_up 1 (align_of s)

module _ (s : Shape) (knows : Names → Type 0) (bytes : List ℕ) (pos : ℕ) where
  -- the option at a position is none
  abbrev pub IsNoneAt : Type 0
  IsNoneAt = (v : Value) → HeldAt (option s) knows bytes pos v → v ≡ chosen 0 no_values

  -- it has some value
  abbrev pub IsSomeAt : Type 0
  IsSomeAt = (v : Value) → HeldAt (option s) knows bytes pos v → HasPayload 1 s knows bytes (some_position s pos) v

  -- the layout has some value there
  pub record HasSome : Type 0 where
    pub payload : Value
    pub held : HeldAt (option s) knows bytes pos (chosen 1 (more_values payload no_values))

-- ---- results

-- the position of the value or the error of a result at a position
abbrev pub outcome_position : Shape → Shape → ℕ → ℕ
outcome_position s t pos = pos + align_up 1 (max (align_of s) (align_of t))

-- the size of a result by the sizes and the alignments of its value and its error, at most 2^64 - 1
abbrev pub outcome_size : (value_size value_align error_size error_align : ℕ) → ℕ
outcome_size value_size value_align error_size error_align =
    min (align_up (max value_align error_align + max value_size error_size) (max value_align error_align)) (2 ^ 64 - 1)

-- a list of names is known to both
abbrev pub both : (Names → Type 0) → (Names → Type 0) → Names → Type 0
both knows others names = knows names × others names

module _ (s t : Shape) (knows others : Names → Type 0) (bytes : List ℕ) (pos : ℕ) where
  -- the result at a position is a value
  abbrev pub IsOkAt : Type 0
  IsOkAt = (v : Value) → HeldAt (result s t) (both knows others) bytes pos v → HasPayload 0 s knows bytes (outcome_position s t pos) v

  -- it is an error
  abbrev pub IsErrAt : Type 0
  IsErrAt = (v : Value) → HeldAt (result s t) (both knows others) bytes pos v → HasPayload 1 t others bytes (outcome_position s t pos) v

  -- the layout has a value there
  pub record HasOk : Type 0 where
    pub payload : Value
    pub held : HeldAt (result s t) (both knows others) bytes pos (chosen 0 (more_values payload no_values))

-- ---- boxes and vectors

-- the pointer at a position leads to another position, by its offset
abbrev pub PointsTo : List ℕ → ℕ → ℕ → Type 0
PointsTo bytes pos to = target_from pos (word_at bytes pos) ≡ Some to

-- a value has n elements, which are adjacent from a position on
pub record AreElements (s : Shape) (knows : Names → Type 0) (bytes : List ℕ) (start len : ℕ) (value : Value) : Type 0 where
  pub elements : Values
  pub is : value ≡ group elements
  pub count : count_values elements ≡ len
  pub within : start + len * size_of s ≤ length bytes
  pub each : (i : ℕ) → i < len → (x : Value) × (value_in i elements ≡ Some x) × HeldAt s knows bytes (start + i * size_of s) x

-- n elements of some value are adjacent from a position on
pub record HasElements (s : Shape) (knows : Names → Type 0) (bytes : List ℕ) (start len : ℕ) : Type 0 where
  pub value : Value
  pub stand : AreElements s knows bytes start len value

module _ (s : Shape) (knows : Names → Type 0) (bytes : List ℕ) (pos : ℕ) where
  -- the box at a position leads to another position, where its value is; the value ends before the box
  pub record IsBoxAt (to : ℕ) : Type 0 where
    pub points : PointsTo bytes pos to
    pub before : HasValue (box (sized s)) knows bytes pos → to + size_of s ≤ pos
    pub value : (v : Value) → HeldAt (box (sized s)) knows bytes pos v → HeldAt s knows bytes to v

  -- the vector at a position leads to another position, where its n elements begin; they end before the vector
  pub record IsVecAt (to len : ℕ) : Type 0 where
    pub points : PointsTo bytes pos to
    pub before : HasValue (vector s) knows bytes pos → to + len * size_of s ≤ pos
    pub value : (v : Value) → HeldAt (vector s) knows bytes pos v → AreElements s knows bytes to len v
