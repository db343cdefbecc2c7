-- The lengths that metadata gives, and the extents of what pointers lead to.
use Rattle.std.proofs.Common.{◌≡◌, ℕ, ◌-◌, ◌^◌, ◌<◌, min, List, [], ◌∷◌, ◌++◌, length, ap, sym, ◌∙◌, refl, arith}
use Rattle.std.proofs.Math.Nat.{min-eq_left}
use Rattle.std.proofs.lemmas.List.{drop_at}
use Rattle.std.proofs.lemmas.Nat.{from_le_bytes-to_le_bytes_4}
use Rattle.std.specs.Int.{w32, from_le_bytes, to_le_bytes}
use Rattle.archive_shape_layout.specs.Bytes.{window, word_at}
use Rattle.archive_shape_layout.specs.Shape.{size_of}
use Rattle.archive_shape_layout.specs.Shape.Pointee.{sized, slice, str}
use Rattle.archive_shape_layout.specs.Content.{elements, pointee_content}
use Rattle.archive_shape_layout.specs.Content.Part.{at}
use Rattle.archive_shape_layout.specs.Content.Label.{same, whole, written}
use Rattle.archive_shape.specs.Pointees.{ExtentIsClaimed}

-- a word after an offset of four bytes
pub word_after : (metadata : List ℕ) (n : ℕ) → n < 2 ^ 32 → to_le_bytes w32 n ≡ metadata
    → (offset : List ℕ) → length offset ≡ 4 → word_at (offset ++ metadata) 4 ≡ n
unfolding word_at
word_after metadata n small spelled offset four =
    ap (from_le_bytes w32) (drop_at offset metadata 4 four ∙ sym spelled) ∙ from_le_bytes-to_le_bytes_4 n small

-- a size that a buffer may have is not cut
uncut : (n : ℕ) → n < 2 ^ 64 → min n (2 ^ 64 - 1) ≡ n
uncut n small = min-eq_left (omega (arith, small))

pub extent_is_claimed_law : ExtentIsClaimed
unfolding pointee_content
extent_is_claimed_law bytes pos n (sized s) small = record { label = same; parts = at pos s ∷ []; is = rw (uncut (size_of s) small) refl }
extent_is_claimed_law bytes pos n (slice s) small = record { label = whole; parts = elements pos n s; is = rw (uncut (size_of s) small) refl }
extent_is_claimed_law bytes pos n str small = record { label = written (window bytes pos n); parts = []; is = refl }
