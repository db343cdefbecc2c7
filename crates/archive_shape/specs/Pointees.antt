-- What pointers lead to: the number of elements, and the bytes that they take.
use Rattle.std.specs.Prelude.{◌≡◌, ℕ, ◌*◌, ◌-◌, ◌^◌, ◌<◌, min, List, ◌++◌, length}
use Rattle.archive_shape_layout.specs.Shape.{Pointee, size_of, element_size, element_align}
use Rattle.archive_shape_layout.specs.Shape.Pointee.{sized, slice, str}
use Rattle.archive_shape_layout.specs.Content.{Part, Content, Label, pointee_length, pointee_content}
use Rattle.archive_shape_layout.specs.Content.Content.{claimed}

-- metadata gives a number of elements: a pointer that ends in it has n elements, for any offset of four bytes
abbrev pub GivesLength : Pointee → List ℕ → ℕ → Type 0
GivesLength p metadata n = (offset : List ℕ) → length offset ≡ 4 → pointee_length p (offset ++ metadata) ≡ n

-- the number of bytes of n elements, where the size of one saturates at 2^64 - 1; a sized type is one element
abbrev pub extent_of : Pointee → ℕ → ℕ
extent_of (sized s) n = min (size_of s) (2 ^ 64 - 1)
extent_of (slice s) n = n * min (size_of s) (2 ^ 64 - 1)
extent_of str n = n

-- a content that claims bytes from a position on
pub record Claims (content : Content) (pos size align : ℕ) : Type 0 where
  pub label : Label
  pub parts : List Part
  pub is : content ≡ claimed (record { start = pos; size = size; align = align }) label parts

-- that extent, at that alignment, is what the layout claims for what a pointer leads to
abbrev pub ExtentIsClaimed : Type 0
ExtentIsClaimed =
    (bytes : List ℕ) (pos n : ℕ) (p : Pointee)
    → element_size p < 2 ^ 64
    → Claims (pointee_content bytes pos p n) pos (extent_of p n) (element_align p)
