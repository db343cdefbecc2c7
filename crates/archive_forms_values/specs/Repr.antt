-- What the eight own bytes of an archived text encode.
use Rattle.std.specs.Prelude.{◌≡◌, ℕ, ◌<◌, ◌≤◌, ◌^◌, List, length, slice_index, if◌then◌else◌}
use Rattle.archive_shape_layout.specs.Bytes.{word_at}
use Rattle.archive_shape_layout.specs.Content.{begins_inline, before_ff, text_length}

-- the length of the text
abbrev pub length_of : List ℕ → ℕ
length_of own =
    if begins_inline (slice_index own 0) then length (before_ff own) else text_length (word_at own 0)

-- the greatest length that a length word can have
pub record IsGreatestLength (most : ℕ) : Type 0 where
  pub bound : (word : ℕ) → word < 2 ^ 32 → text_length word ≤ most
  pub reached : (word : ℕ) × (word < 2 ^ 32) × (text_length word ≡ most)
