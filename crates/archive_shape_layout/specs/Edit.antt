-- A write to one leaf's own bytes, and where the bytes of leaves lie.
use Rattle.std.specs.Prelude.{◌≡◌, ◌≢◌, ℕ, ◌+◌, ◌≤◌, ◌⊎◌, IsUtf8, List, [], ◌∷◌, ◌++◌, length, Some, All}
use Rattle.archive_shape_layout.specs.Bytes.{window}
use Rattle.archive_shape_layout.specs.Shape.{Shape, size_of}
use Rattle.archive_shape_layout.specs.Shape.Pointee.{sized, str}
use Rattle.archive_shape_layout.specs.Value.{Value}
use Rattle.archive_shape_layout.specs.Value.Value.{string}
use Rattle.archive_shape_layout.specs.Value.Values.{no_values}
use Rattle.archive_shape_layout.specs.Content.{Names, Part, Label, content_of, made, IsLegal}
use Rattle.archive_shape_layout.specs.Content.Part.{at, behind}
use Rattle.archive_shape_layout.specs.Content.Content.{plain}
use Rattle.archive_shape_layout.specs.Holds.{Region, Visit, OpenShared, Holds, HasRoot}
use Rattle.archive_shape_layout.specs.Laws.{AgreesOn}
use Rattle.archive_shape_layout.specs.Path.{value_at, put_at, Stands}

-- the window of n bytes from w does not overlap that of `size` bytes from `start`
abbrev pub Apart : ℕ → ℕ → ℕ → ℕ → Type 0
Apart w n start size = (w + n ≤ start) ⊎ (start + size ≤ w)

-- the buffer has the same length, and the bytes outside the window of n bytes from w are the same
pub record Spares (bytes others : List ℕ) (w n : ℕ) : Type 0 where
  pub length : length others ≡ length bytes
  pub outside : (start size : ℕ) → Apart w n start size → AgreesOn bytes others start size

-- the value at a path is that of the part at the path
abbrev pub ValueAtPath : Type 0
ValueAtPath =
    (names : Names) (bytes : List ℕ) (level : ℕ) (inside : List OpenShared) (before : List Visit) (p q : Part) (v w : Value) (path : List ℕ)
    → Stands names bytes q w level inside before p v path
    → value_at path v ≡ Some w

-- a part in a part is at the path of the outer one followed by its own path
abbrev pub PathsJoin : Type 0
PathsJoin =
    (names : Names) (bytes : List ℕ) (level : ℕ) (inside : List OpenShared) (before after : List Visit) (p q r : Part) (v w u : Value) (regions : List Region) (path inner : List ℕ)
    → Holds names bytes level inside p v regions before after
    → Stands names bytes q w level inside before p v path
    → ((deeper : ℕ) (around : List OpenShared) (since until : List Visit) (claims : List Region)
    → Holds names bytes deeper around q w claims since until
    → Stands names bytes r u deeper around since q w inner)
    → Stands names bytes r u level inside before p v (path ++ inner)

-- a leaf in place, which is a number, a truth value, a char or an inline text: where its own bytes become those of
-- another value of its shape, the root has the same regions and visits, and that value at the leaf's path
abbrev pub EditOfLeaf : Type 0
EditOfLeaf =
    (names : Names) (bytes others : List ℕ) (pos : ℕ) (s : Shape) (v : Value) (regions : List Region) (visits : List Visit)
    (path : List ℕ) (leaf_pos : ℕ) (leaf_shape : Shape) (old new : Value) (was is : Label)
    → HasRoot names bytes pos s v regions visits
    → Stands names bytes (at leaf_pos leaf_shape) old 0 [] [] (behind pos (sized s) 1) v path
    → Spares bytes others leaf_pos (size_of leaf_shape)
    → content_of names bytes (at leaf_pos leaf_shape) ≡ plain was []
    → content_of names others (at leaf_pos leaf_shape) ≡ plain is []
    → IsLegal is
    → made is no_values ≡ Some new
    → HasRoot names others pos s (put_at path new v) regions visits

-- a text out of line: where its bytes become those of another text of the same length
abbrev pub EditOfText : Type 0
EditOfText =
    (names : Names) (bytes others : List ℕ) (pos : ℕ) (s : Shape) (v : Value) (regions : List Region) (visits : List Visit)
    (path : List ℕ) (text_pos len : ℕ) (old : Value)
    → HasRoot names bytes pos s v regions visits
    → Stands names bytes (behind text_pos str len) old 0 [] [] (behind pos (sized s) 1) v path
    → Spares bytes others text_pos len
    → IsUtf8 (window others text_pos len)
    → HasRoot names others pos s (put_at path (string (window others text_pos len)) v) regions visits

-- ---- where leaves lie

-- a part is a leaf whose bytes are the window of `size` bytes from `start`: a value in place that has no part, or a
-- text out of line
pub data IsLeafIn (names : Names) (bytes : List ℕ) (p : Part) (start size : ℕ) : Type 0 where
  in_place : {s : Shape} {l : Label} → p ≡ at start s → size ≡ size_of s → content_of names bytes p ≡ plain l [] → IsLeafIn names bytes p start size
  out_of_line : p ≡ behind start str size → IsLeafIn names bytes p start size

-- the bytes of two leaves at different paths do not overlap
abbrev pub LeavesApart : Type 0
LeavesApart =
    (names : Names) (bytes : List ℕ) (pos : ℕ) (s : Shape) (v : Value) (regions : List Region) (visits : List Visit)
    (path other : List ℕ) (p q : Part) (u w : Value) (start size from len : ℕ)
    → HasRoot names bytes pos s v regions visits
    → Stands names bytes p u 0 [] [] (behind pos (sized s) 1) v path
    → Stands names bytes q w 0 [] [] (behind pos (sized s) 1) v other
    → IsLeafIn names bytes p start size
    → IsLeafIn names bytes q from len
    → path ≢ other
    → Apart start size from len

-- a leaf's bytes lie in the buffer
abbrev pub LeafWithin : Type 0
LeafWithin =
    (names : Names) (bytes : List ℕ) (pos : ℕ) (s : Shape) (v : Value) (regions : List Region) (visits : List Visit)
    (path : List ℕ) (p : Part) (u : Value) (start size : ℕ)
    → HasRoot names bytes pos s v regions visits
    → Stands names bytes p u 0 [] [] (behind pos (sized s) 1) v path
    → IsLeafIn names bytes p start size
    → start + size ≤ length bytes

-- one region of a list has the window of `size` bytes from `start`, and no other overlaps it
pub record InOneRegion (regions : List Region) (start size : ℕ) : Type 0 where
  pub earlier : List Region
  pub region : Region
  pub later : List Region
  pub are : regions ≡ earlier ++ region ∷ later
  pub begins : region.start ≤ start
  pub ends : start + size ≤ region.start + region.size
  pub others : All (λ r. Apart r.start r.size start size) (earlier ++ later)

-- a leaf's bytes lie in one region, and no other has any of them; so a leaf of at least one byte lies in exactly one
abbrev pub LeafInOneRegion : Type 0
LeafInOneRegion =
    (names : Names) (bytes : List ℕ) (pos : ℕ) (s : Shape) (v : Value) (regions : List Region) (visits : List Visit)
    (path : List ℕ) (p : Part) (u : Value) (start size : ℕ)
    → HasRoot names bytes pos s v regions visits
    → Stands names bytes p u 0 [] [] (behind pos (sized s) 1) v path
    → IsLeafIn names bytes p start size
    → InOneRegion regions start size
