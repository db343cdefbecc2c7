-- Sizes of options and results, which saturate at `usize::MAX`.
use Rattle.std.specs.Prelude.{◌≡◌, ℕ, ◌+◌, ◌-◌, ◌%◌, ◌<◌, ◌^◌, max, min, refl}
use Rattle.std.proofs.Common.{arith, ap, sym, ◌∙◌}
use Rattle.std.proofs.Math.Nat.{mod-eq_of_lt}
use native.Mathlib.Decide.{dec_le}
use Rattle.archive_shape_layout.specs.Bytes.{align_up}
use Rattle.archive_shape_layout.specs.Shape.{Shape, size_of, align_of}
use Rattle.archive_shape_layout.specs.Shape.Shape.{option, result}
use Rattle.archive_shape_layout.proofs.Framed.{le_align_up}

-- the first multiple after a tag is the alignment itself
pub behind_tag : (align : ℕ) → 0 < align → align_up 1 align ≡ align
unfolding align_up
behind_tag align positive =
    elim (dec_le align 1) [
      | yes h ↦ let one : align ≡ 1 = omega arith in rw one refl
      | no h ↦
          let tag : 1 % align ≡ 1 = mod-eq_of_lt (omega arith) in
          let rest : (align - 1) % align ≡ align - 1 = mod-eq_of_lt (omega arith) in
          rw (tag, rest) (omega arith)
    ]

-- a size that saturates before it is rounded up saturates after it
pub filled_cut : (n cut align : ℕ) → cut ≡ min n (2 ^ 64 - 1) → min (align_up cut align) (2 ^ 64 - 1) ≡ min (align_up n align) (2 ^ 64 - 1)
filled_cut n cut align is =
    elim (dec_le n (2 ^ 64 - 1)) [
      | yes h ↦ let same : cut ≡ n = omega arith in ap (λ x. min (align_up x align) (2 ^ 64 - 1)) same
      | no h ↦
          let first = le_align_up cut align in
          let second = le_align_up n align in
          omega arith
    ]

-- so does that of a payload after a tag
tagged_sized :
    (payload size other align : ℕ)
    → size ≡ min payload (2 ^ 64 - 1)
    → align ≡ other
    → 0 < align
    → min (align_up (align + size) align) (2 ^ 64 - 1) ≡ min (align_up (align_up 1 other + payload) other) (2 ^ 64 - 1)
tagged_sized payload size other align sized aligned positive =
    let from : align_up 1 other ≡ other = behind_tag other (omega arith) in
    let cut : min (align + size) (2 ^ 64 - 1) ≡ min (align + payload) (2 ^ 64 - 1) = omega arith in
    sym (filled_cut (align + size) (min (align + size) (2 ^ 64 - 1)) align refl)
    ∙ filled_cut (align + payload) (min (align + size) (2 ^ 64 - 1)) align cut
    ∙ ap (λ x. min (align_up (x + payload) x) (2 ^ 64 - 1)) aligned
    ∙ ap (λ x. min (align_up (x + payload) other) (2 ^ 64 - 1)) (sym from)

pub option_sized :
    (s : Shape) (size align : ℕ)
    → size ≡ min (size_of s) (2 ^ 64 - 1)
    → align ≡ align_of s
    → 0 < align
    → min (align_up (align + size) align) (2 ^ 64 - 1) ≡ min (size_of (option s)) (2 ^ 64 - 1)
option_sized s size align sized aligned positive = tagged_sized (size_of s) size (align_of s) align sized aligned positive

pub result_sized :
    (s t : Shape) (value_size value_align error_size error_align : ℕ)
    → value_size ≡ min (size_of s) (2 ^ 64 - 1)
    → value_align ≡ align_of s
    → 0 < value_align
    → error_size ≡ min (size_of t) (2 ^ 64 - 1)
    → error_align ≡ align_of t
    → min (align_up (max value_align error_align + max value_size error_size) (max value_align error_align)) (2 ^ 64 - 1) ≡ min (size_of (result s t)) (2 ^ 64 - 1)
result_sized s t value_size value_align error_size error_align sized aligned positive error_sized error_aligned =
    tagged_sized (max (size_of s) (size_of t)) (max value_size error_size) (max (align_of s) (align_of t)) (max value_align error_align) (omega arith) (omega arith) (omega arith)

pub result_aligned : (s t : Shape) (first second : ℕ) → first ≡ align_of s → second ≡ align_of t → max first second ≡ align_of (result s t)
result_aligned s t first second is_first is_second = omega arith
