-- One more term of a sum, and one more number written.
use Rattle.std.proofs.Common.{◌≡◌, ℕ, ◌+◌, ◌*◌, ◌%◌, ◌^◌, ◌<◌, ℤ, pos, ◌+ℤ◌, to_z, List, ap, sym, ◌∙◌, add-one, arith}
use Rattle.std.specs.Int.{w64, int_wrap}
use Rattle.std.proofs.lemmas.Int.{wrapping_add-bits, to_z_pos}
use Rattle.archive_bench.specs.Sums.{signed_sum_below}
use Rattle.archive_bench.specs.Writes.{with_i64, with_i64s}

pub signed_sum_more : (term : ℕ → ℤ) (n : ℕ) → signed_sum_below term (n + 1) ≡ signed_sum_below term n +ℤ term n
signed_sum_more term n = ap (λ (k : ℕ). signed_sum_below term k) (add-one n)

-- the number after n others
pub next_number : (m n : ℕ) → m < 2 ^ 64 → n < 2 ^ 63 → to_z w64 ((m + n) % 2 ^ 64) ≡ int_wrap w64 (to_z w64 m +ℤ pos n)
next_number m n small below =
    wrapping_add-bits w64 m n small (omega (arith, below))
    ∙ ap (λ (z : ℤ). int_wrap w64 (to_z w64 m +ℤ z)) (to_z_pos w64 n below)

pub with_i64s_more : (old written new : List ℕ) (first next : ℤ) (n : ℕ)
    → written ≡ with_i64s old first n
    → next ≡ int_wrap w64 (first +ℤ pos n)
    → new ≡ with_i64 written (n * 8) next
    → new ≡ with_i64s old first (n + 1)
with_i64s_more old written new first next n before number adds =
    adds
    ∙ ap (λ (bytes : List ℕ). with_i64 bytes (n * 8) next) before
    ∙ ap (λ (z : ℤ). with_i64 (with_i64s old first n) (n * 8) z) number
    ∙ ap (λ (k : ℕ). with_i64s old first k) (sym (add-one n))
