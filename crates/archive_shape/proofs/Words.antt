-- Words of four bytes, and where they lead as offsets.
use Rattle.std.proofs.Common.{◌≡◌, ℕ, suc, ℤ, pos, negsuc, ◌+ℤ◌, ◌+◌, ◌-◌, ◌≤◌, ◌<◌, ◌^◌, List, [], ◌∷◌, slice_index, Option, Some, None, sym, ap, ◌∙◌, arith, add-zero, get_or-drop, Fits, w8, unsigned_abs}
use Rattle.std.proofs.lemmas.Bool.Decides.{nat_tests}
use Rattle.std.proofs.lemmas.Int.{ints}
use Rattle.std.proofs.Math.Facts.{to_z-neg}
use Rattle.std.specs.Int.{w32, w64, from_le_bytes, cast_signed, FitsUnsigned}
use Rattle.std.specs.Option.{SomeIff}
use native.Mathlib.Decide.{dec_le}
use Rattle.archive_shape_layout.specs.Bytes.{word_at, target_from}

-- a word is spelled by its four bytes
pub word_of_bytes : (bytes : List ℕ) (at : ℕ) → word_at bytes at ≡ from_le_bytes w32 (slice_index bytes at ∷ slice_index bytes (at + 1) ∷ slice_index bytes (at + 2) ∷ slice_index bytes (at + 3) ∷ [])
unfolding word_at
word_of_bytes bytes at = simp (get_or-drop, add-zero)

pub word_bound : (bytes : List ℕ) (at : ℕ) → ((i : ℕ) → Fits w8 (slice_index bytes i)) → word_at bytes at < 2 ^ 32
word_bound bytes at fits =
    let first = fits at in
    let second = fits (at + 1) in
    let third = fits (at + 2) in
    let fourth = fits (at + 3) in
    omega (arith, word_of_bytes bytes at, first, second, third, fourth)

-- ---- where a word leads as an offset

leads_up : (from word : ℕ) → word < 2 ^ 31 → target_from from word ≡ Some (from + word)
unfolding target_from
leads_up from word h = grind (arith, nat_tests)

leads_down : (from word : ℕ) → 2 ^ 31 ≤ word → 2 ^ 32 - word ≤ from → target_from from word ≡ Some (from - (2 ^ 32 - word))
unfolding target_from
leads_down from word h le = grind (arith, nat_tests)

leads_nowhere : (from word : ℕ) → 2 ^ 31 ≤ word → from < 2 ^ 32 - word → target_from from word ≡ None
unfolding target_from
leads_nowhere from word h lt = grind (arith, nat_tests)

below_zero : (word : ℕ) → 2 ^ 31 ≤ word → word < 2 ^ 32 → cast_signed w32 word ≡ negsuc (2 ^ 32 - suc word)
below_zero word low high =
    let same : word ≡ 2 ^ 32 - suc (2 ^ 32 - suc word) = omega arith in
    ap (cast_signed w32) same ∙ to_z-neg w32 (2 ^ 32 - suc word) (omega arith)

module _ (from word : ℕ) (offset : ℤ) (small : from < 2 ^ 63) (bound : word < 2 ^ 32) (is : offset ≡ cast_signed w32 word) where
  -- as the signed number that it represents
  pub leads_to : (to : ℕ) → pos from +ℤ offset ≡ pos to → target_from from word ≡ Some to
  leads_to to sum =
      elim (dec_le (2 ^ 31) word) [
        | no h ↦ leads_up from word (omega arith) ∙ ap Some (omega (arith, ints))
        | yes h ↦
            let down : offset ≡ negsuc (2 ^ 32 - suc word) = is ∙ below_zero word h bound in
            elim (dec_le (2 ^ 32 - word) from) [
              | yes i ↦ leads_down from word h i ∙ ap Some (omega (arith, ints))
              | no i ↦ absurd (omega (arith, ints))
            ]
      ]

  -- and where that leads before position 0, the word leads nowhere
  pub leads_before : (FitsUnsigned w64 (pos from +ℤ offset) → ⊥) → target_from from word ≡ None
  leads_before n =
      elim (dec_le (2 ^ 31) word) [
        | no h ↦ absurd (n (omega (arith, ints), omega (arith, ints)))
        | yes h ↦
            let down : offset ≡ negsuc (2 ^ 32 - suc word) = is ∙ below_zero word h bound in
            elim (dec_le (2 ^ 32 - word) from) [
              | yes i ↦ absurd (n (omega (arith, ints), omega (arith, ints)))
              | no i ↦ leads_nowhere from word h (omega arith)
            ]
      ]

  pub offset_leads : (result : Option ℕ) → SomeIff result (FitsUnsigned w64 (pos from +ℤ offset)) (unsigned_abs (pos from +ℤ offset)) → result ≡ target_from from word
  offset_leads None r = sym (leads_before r)
  offset_leads (Some to) r = let fits = r.0 in let at = r.1 in sym (leads_to to (omega (arith, ints)))
