-- Where an archived text has its bytes.
use Rattle.std.specs.Prelude.{◌≡◌, ℕ, ◌+◌, ◌<◌, ◌≤◌, List, length, IsUtf8, slice_index, Some, All}
use Rattle.archive_shape_layout.specs.Bytes.{window, word_at, target_from}
use Rattle.archive_shape_layout.specs.Shape.Shape.{text}
use Rattle.archive_shape_layout.specs.Value.{Value}
use Rattle.archive_shape_layout.specs.Value.Value.{string}
use Rattle.archive_shape_layout.specs.Content.{Names, IsInline, before_ff, text_length}
use Rattle.archive_shape_layout.specs.Content.Part.{at}
use Rattle.archive_shape_layout.specs.Holds.{Region, Visit, OpenShared, Holds}

-- the eight bytes of an archived text
abbrev pub own_bytes : List ℕ → ℕ → List ℕ
own_bytes bytes pos = window bytes pos 8

-- n bytes from a position on are those of the archived text at a position
pub data LiesAt (bytes : List ℕ) (pos : ℕ) : (start len : ℕ) → Type 0 where
  -- the bytes before the first ff
  inline : {len : ℕ}
      → IsInline (slice_index (own_bytes bytes pos) 0)
      → len ≡ length (before_ff (own_bytes bytes pos))
      → LiesAt bytes pos pos len
  -- at the target of the offset; their number is the one that the length word gives, and more than eight
  out_of_line : {start len : ℕ}
      → (IsInline (slice_index (own_bytes bytes pos) 0) → ⊥)
      → len ≡ text_length (word_at (own_bytes bytes pos) 0)
      → 8 < len
      → target_from pos (word_at (own_bytes bytes pos) 4) ≡ Some start
      → LiesAt bytes pos start len

-- bytes have an archived text at a position
pub record HasText (bytes : List ℕ) (pos : ℕ) : Type 0 where
  pub start : ℕ
  pub len : ℕ
  pub stands : LiesAt bytes pos start len
  pub own_within : pos + 8 ≤ length bytes
  pub within : start + len ≤ length bytes
  pub is_text : IsUtf8 (window bytes start len)

-- and it is this text
pub record IsText (bytes : List ℕ) (pos : ℕ) (t : List ℕ) : Type 0 where
  pub there : HasText bytes pos
  pub is : t ≡ window bytes there.start there.len

-- it has this number of bytes
abbrev pub HasLength : List ℕ → ℕ → ℕ → Type 0
HasLength bytes pos len = (t : List ℕ) × IsText bytes pos t × (len ≡ length t)

-- there is at most one text at a position
abbrev pub OneText : Type 0
OneText = (bytes : List ℕ) (pos : ℕ) (t u : List ℕ) → IsText bytes pos t → IsText bytes pos u → t ≡ u

-- a value is the text at a position
pub record IsTextThere (bytes : List ℕ) (pos : ℕ) (v : Value) : Type 0 where
  pub text : List ℕ
  pub stands : IsText bytes pos text
  pub value : v ≡ string text

-- where the layout has a value of the shape of texts, and what it claims lies in the buffer, the bytes have that text
-- there
abbrev pub HeldIsText : Type 0
HeldIsText =
    (names : Names) (bytes : List ℕ) (level : ℕ) (inside : List OpenShared) (pos : ℕ) (v : Value) (regions : List Region) (before after : List Visit)
    → pos + 8 ≤ length bytes
    → All (λ r. r.start + r.size ≤ length bytes) regions
    → Holds names bytes level inside (at pos text) v regions before after
    → IsTextThere bytes pos v
