-- What is true of a list in which no element passes.
use Rattle.std.proofs.Common.{◌≡◌, ℕ, ◌<◌, ◌≤◌, Bool, true, false, cond, List, length, get_or, Some, None, ltb, ltb-false, not, refl, arith}
use Rattle.std.specs.List.{position, prefix_len}
use Rattle.std.proofs.lemmas.Bool.{not-true}
use Rattle.std.proofs.lemmas.List.Sums.{prefix_len-le-length, prefix_len_passes}

at_end : (i m : ℕ) → i ≤ m → cond (ltb i m) (Some i) None ≡ None → i ≡ m
at_end i m l e =
    elim (ltb i m) as (λ t. ltb i m ≡ t → cond t (Some i) None ≡ None → i ≡ m) [
      | true ↦ λ h k. absurd (cc)
      | false ↦ λ h k. let over : m ≤ i = ltb-false i m h in omega arith
    ] refl e

pub position-None : {X : Type 0} (p : X → Bool) (xs : List X) (d : X) → position p xs ≡ None → (k : ℕ) → k < length xs → p (get_or xs k d) ≡ false
position-None p xs d e k h =
    let all : prefix_len (λ x. not (p x)) xs ≡ length xs = at_end _ _ (prefix_len-le-length (λ x. not (p x)) xs) e in
    not-true _ (prefix_len_passes (λ x. not (p x)) xs k d (omega arith))
