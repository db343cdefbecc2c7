-- A claim of a region, by the results of a context.
use Rattle.std.proofs.Common.{◌≡◌, ◌≢◌, ℕ, ◌+◌, ◌%◌, ◌≤◌, Result, Ok, Err, refl, ◌∙◌, arith}
use native.Mathlib.Decide.{dec_le}
use Rattle.archive_shape_layout.specs.Content.{Span}
use Rattle.archive_shape.specs.Range.{Range, InRange}
use Rattle.archive_shape.specs.Questions.{FirstUnanswered, claim, out_of_range}
use Rattle.archive_shape.specs.Questions.FirstUnanswered.{unanswered_here, unanswered_later}
use Rattle.archive_shape.specs.Calls.{ClaimsBytes}
use Rattle.archive_shape.specs.Kept.{Kept, range_of, pushed, popped, started_again}
use Rattle.archive_shape.specs.declared.checking.context.PushedRange.{PushedRange}
use Rattle.archive_shape_layout.specs.declared.error.Error.{Error}
use Rattle.archive_shape_layout.specs.declared.error.Error.TheVariants.{Unaligned, ExceededMaximumSubtreeDepth}

pub one_error : (r : Result (Unit {0}) Error) (e d : Error) → r ≡ Err e → r ≡ Err d → e ≡ d
one_error r e d h i = cc

pub no_error : (r : Result (Unit {0}) Error) (e : Error) → r ≡ Err e → r ≡ Ok tt → ⊥
no_error r e h i = cc

-- the test of a place refuses what lies outside the range, or is not aligned
pub place_unanswered :
    (k : Range) (s : Span) (r : Result (Unit {0}) Error) (e : Error)
    → ((InRange k s.start s.size → ⊥) → r ≡ Err (out_of_range s.size))
    → (InRange k s.start s.size → s.start % s.align ≢ 0 → r ≡ Err (Unaligned s.align))
    → (InRange k s.start s.size → s.start % s.align ≡ 0 → r ≡ Ok tt)
    → r ≡ Err e
    → FirstUnanswered k e (claim s)
place_unanswered k s r e outside unaligned accepted refused =
    elim (dec_le k.start s.start) [
      | no h ↦ missed (λ w. h w.begins)
      | yes h ↦ elim (dec_le (s.start + s.size) k.end) [
        | no i ↦ missed (λ w. i w.ends)
        | yes i ↦
            let within : InRange k s.start s.size = record { begins = h; ends = i } in
            elim (dec_le (s.start % s.align) 0) [
              | no j ↦
                  let askew : s.start % s.align ≢ 0 = λ z. j (omega arith) in
                  unanswered_later within (unanswered_here askew (one_error r e _ refused (unaligned within askew)))
              | yes j ↦ absurd (no_error r e refused (accepted within (omega arith)))
            ]
      ]
    ]
  where
    missed : (InRange k s.start s.size → ⊥) → FirstUnanswered k e (claim s)
    missed n = unanswered_here n (one_error r e _ refused (outside n))

pub depth_unanswered : (k : Range) (s : Span) (e : Error) → InRange k s.start s.size → s.start % s.align ≡ 0 → k.most ≤ k.level → e ≡ ExceededMaximumSubtreeDepth → FirstUnanswered k e (claim s)
depth_unanswered k s e within aligned deep is =
    unanswered_later within (unanswered_later aligned (unanswered_here (λ low. omega arith) is))

-- a push and its pop
pub pushed_popped : (k pushing popping : Kept) (r : PushedRange) (pos end : ℕ) → r ≡ record { pos = pos; end = end; outer = k.end } → pushing ≡ pushed k r → popping ≡ popped pushing r k.pushes → popping ≡ started_again k end k.seen
pushed_popped k pushing popping r pos end saves narrowed again = again ∙ rw (narrowed, saves) refl

-- a claim of bytes is refused
pub bytes_unclaimed : (k : Kept) (start size : ℕ) (r : Result (Unit {0}) Error) (e : Error) → r ≡ Err e
    → FirstUnanswered (range_of k) e (claim (record { start = start; size = size; align = 1 })) → ClaimsBytes k start size r k
bytes_unclaimed k start size r e is first = rw is (first, refl)
