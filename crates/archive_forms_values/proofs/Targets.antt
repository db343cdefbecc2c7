-- The target of a pointer that begins with an offset of four bytes, by what the offset is read as.
use Rattle.std.proofs.Common.{◌≡◌, ℕ, pos, ◌+ℤ◌, ◌≤◌, ◌<◌, ◌^◌, List, drop, slice_index, Some, None, refl, sym, ap, subst, ◌∙◌, arith, get_or-take, Fits, w8}
use Rattle.std.specs.Int.{w32, w64, cast_signed, FitsUnsigned}
use Rattle.archive_shape_layout.specs.Bytes.{window, word_at, target_from}
use Rattle.archive_shape.proofs.Words.{word_bound, leads_to, leads_before}
use Rattle.archive_shape.specs.Offsets.{signed_number}

-- the word that a pointer begins with
pub first_word : (bytes : List ℕ) (from size : ℕ) → 4 ≤ size → word_at (window bytes from size) 0 ≡ word_at bytes from
unfolding word_at
first_word bytes from size long =
    let first = get_or-take size (drop from bytes) 0 0 (omega arith) in
    let second = get_or-take size (drop from bytes) 1 0 (omega arith) in
    let third = get_or-take size (drop from bytes) 2 0 (omega arith) in
    let fourth = get_or-take size (drop from bytes) 3 0 (omega arith) in
    rw (first, second, third, fourth)

-- is read from its first four bytes
read_offset : (bytes : List ℕ) (from : ℕ) → signed_number w32 (window bytes from 4) ≡ cast_signed w32 (word_at (window bytes from 4) 0)
unfolding word_at
read_offset bytes from = refl

module _ (bytes : List ℕ) (from size : ℕ) (long : 4 ≤ size) (fits : (i : ℕ) → Fits w8 (slice_index bytes i)) (small : from < 2 ^ 63) where
  bound : word_at (window bytes from size) 0 < 2 ^ 32
  bound = omega (arith, first_word bytes from size long, word_bound bytes from fits)

  offset_is : signed_number w32 (window bytes from 4) ≡ cast_signed w32 (word_at (window bytes from size) 0)
  offset_is = read_offset bytes from ∙ ap (cast_signed w32) (first_word bytes from 4 (omega arith) ∙ sym (first_word bytes from size long))

  -- the pointer is read at `base` of `there`, which is the same place
  module _ (there : List ℕ) (base : ℕ) (same : there ≡ bytes) (own : base ≡ from) where
    pub target_found : (to : ℕ) → pos base +ℤ signed_number w32 (window there base 4) ≡ pos to → target_from from (word_at (window bytes from size) 0) ≡ Some to
    target_found to sum =
        leads_to from (word_at (window bytes from size) 0) _ small bound offset_is to
        (subst (λ n. pos n +ℤ signed_number w32 (window bytes n 4) ≡ pos to) own (subst (λ bs. pos base +ℤ signed_number w32 (window bs base 4) ≡ pos to) same sum))

    pub target_missed : (FitsUnsigned w64 (pos base +ℤ signed_number w32 (window there base 4)) → ⊥) → target_from from (word_at (window bytes from size) 0) ≡ None
    target_missed before =
        leads_before from (word_at (window bytes from size) 0) _ small bound offset_is
        (subst (λ n. FitsUnsigned w64 (pos n +ℤ signed_number w32 (window bytes n 4)) → ⊥) own (subst (λ bs. FitsUnsigned w64 (pos base +ℤ signed_number w32 (window bs base 4)) → ⊥) same before))
