-- Regions one after the other, with zeros between them; and which bytes are below 256.
use Rattle.std.proofs.Common.{ℕ, ◌+◌, ◌≤◌, ◌<◌, List, [], ◌∷◌, ◌++◌, replicate, arith, inl, inr, ⊎_elim}
use Rattle.std.proofs.lemmas.Bool.{cases_lt}
use Rattle.std.specs.Int.{Width, w32, to_le_bytes}
use Rattle.archive_shape_layout.specs.Holds.{Region, Ascends, end_after}
use Rattle.archive_shape_layout.proofs.Ascent.{Ascends-append}
use Rattle.archive_shape_layout.proofs.Evaluated.{ascends_raised, end_below}
use Rattle.archive_shape_canonical.proofs.Editing.{InRegions-left, InRegions-right}
use Rattle.archive_shape_canonical.proofs.Small.{small_none, small_more, small_append, small_same, small_word}
use Rattle.archive_shape.specs.Bytes.{zeros}
use Rattle.archive_shape_layout.proofs.Evaluated.{ascends_lowered}
use Rattle.archive_forms_laws.specs.Spells.{AreGapsZero}
use Rattle.archive_shape_canonical.specs.Canonical.{AreBytes}

pub no_gap : (bytes : List ℕ) (regions : List Region) (low : ℕ) → AreGapsZero bytes regions low (low + 0)
no_gap bytes regions low i h g = absurd (omega (arith, h, g))

pub gaps_join : (bytes : List ℕ) (xs ys : List Region) (low mid high : ℕ) → AreGapsZero bytes xs low mid → AreGapsZero bytes ys mid high → AreGapsZero bytes (xs ++ ys) low high
gaps_join bytes xs ys low mid high f g i a b =
    ⊎_elim
    (λ l. ⊎_elim (λ o. inl (InRegions-left xs ys i o)) (λ z. inr z) (f i a l))
    (λ r. ⊎_elim (λ o. inl (InRegions-right xs ys i o)) (λ z. inr z) (g i r b))
    (cases_lt i mid)

pub ascends_join : (low mid high : ℕ) (xs ys : List Region) → Ascends low mid xs → Ascends mid high ys → low ≤ mid → mid ≤ high → Ascends low high (xs ++ ys)
ascends_join low mid high xs ys a b h g =
    (Ascends-append low high xs ys).1 (ascends_raised low mid high xs g a, ascends_lowered (end_after low xs) mid high ys (end_below low mid xs h a) b)

-- ---- bytes

pub bytes_none : AreBytes []
bytes_none = small_none.each

pub bytes_more : (b : ℕ) (bs : List ℕ) → b < 256 → AreBytes bs → AreBytes (b ∷ bs)
bytes_more b bs h k = (small_more h (record { each = k })).each

pub bytes_append : (xs ys : List ℕ) → AreBytes xs → AreBytes ys → AreBytes (xs ++ ys)
bytes_append xs ys h k = (small_append (record { each = h }) (record { each = k })).each

-- n copies of one byte
pub bytes_same : (n b : ℕ) → b < 256 → AreBytes (replicate n b)
bytes_same n b h = (small_same n b h).each

pub bytes_zeros : (n : ℕ) → AreBytes (zeros n)
bytes_zeros n = (small_same n 0 (omega arith)).each

-- a number of any width
pub bytes_number : (w : Width) (n : ℕ) → AreBytes (to_le_bytes w n)
bytes_number w n = (small_word w n).each

pub bytes_word : (n : ℕ) → AreBytes (to_le_bytes w32 n)
bytes_word n = bytes_number w32 n
