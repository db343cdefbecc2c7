-- What a write over a leaf's own bytes changes in the root that it is a part of: the leaf at that path is another one,
-- and nothing else changes.
use Rattle.std.specs.Prelude.{◌≡◌, ℕ, ◌+◌, ◌≤◌, List, [], length, slice_index, IsUtf8}
use Rattle.archive_shape_layout.specs.Bytes.{window}
use Rattle.archive_shape_layout.specs.Shape.{Shape, size_of}
use Rattle.archive_shape_layout.specs.Shape.Shape.{text}
use Rattle.archive_shape_layout.specs.Shape.Pointee.{sized, str}
use Rattle.archive_shape_layout.specs.Value.{Value}
use Rattle.archive_shape_layout.specs.Value.Value.{string}
use Rattle.archive_shape_layout.specs.Content.{Names, Part, IsInline, before_ff}
use Rattle.archive_shape_layout.specs.Content.Part.{at, behind}
use Rattle.archive_shape_layout.specs.Holds.{Region, Visit, HasRoot}
use Rattle.archive_shape_layout.specs.Path.{put_at, Stands}
use Rattle.archive_shape_layout.specs.Numbers.{IsLeafShape, Reads}
use Rattle.archive_shape.specs.Bytes.{overwrite}

-- a part is at a path of the root's value
abbrev pub StandsInRoot : Names → List ℕ → ℕ → Shape → Value → List ℕ → Part → Value → Type 0
StandsInRoot names bytes pos s v path part value = Stands names bytes part value 0 [] [] (behind pos (sized s) 1) v path

module _ (names : Names) (bytes : List ℕ) (pos : ℕ) (s : Shape) (v : Value) (path : List ℕ) where
  -- the n bytes from a position on are those of the text at the path: inline, or out of line
  pub data TextStands (start len : ℕ) : Type 0 where
    stands_inline :
        {old : Value}
        → StandsInRoot names bytes pos s v path (at start text) old
        → IsInline (slice_index (window bytes start 8) 0)
        → len ≡ length (before_ff (window bytes start 8))
        → TextStands start len
    stands_out_of_line :
        {old : Value}
        → StandsInRoot names bytes pos s v path (behind start str len) old
        → TextStands start len

-- a number, char or truth value, over another one of its shape
abbrev pub SealedLeaf : Type 0
SealedLeaf =
    (names : Names) (bytes own : List ℕ) (pos : ℕ) (s : Shape) (v : Value) (regions : List Region) (visits : List Visit)
    (path : List ℕ) (leaf_pos : ℕ) (leaf_shape : Shape) (old new : Value)
    → HasRoot names bytes pos s v regions visits
    → IsLeafShape leaf_shape
    → StandsInRoot names bytes pos s v path (at leaf_pos leaf_shape) old
    → length own ≡ size_of leaf_shape
    → leaf_pos + length own ≤ length bytes
    → Reads leaf_shape own new
    → HasRoot names (overwrite bytes leaf_pos own) pos s (put_at path new v) regions visits

-- a text, over another one of the same length
abbrev pub SealedText : Type 0
SealedText =
    (names : Names) (bytes t : List ℕ) (pos : ℕ) (s : Shape) (v : Value) (regions : List Region) (visits : List Visit)
    (path : List ℕ) (start : ℕ)
    → HasRoot names bytes pos s v regions visits
    → TextStands names bytes pos s v path start (length t)
    → start + length t ≤ length bytes
    → IsUtf8 t
    → HasRoot names (overwrite bytes start t) pos s (put_at path (string t) v) regions visits
