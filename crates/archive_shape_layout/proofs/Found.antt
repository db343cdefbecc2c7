-- A root that is known to exist is found.
use Rattle.std.proofs.Common.{◌≡◌, ℕ, Bool, true, false, List, refl, ap, le_refl}
use Rattle.std.proofs.Math.Logic.{∥∥₁_map}
use Rattle.archive_shape_layout.specs.Shape.{Shape}
use Rattle.archive_shape_layout.specs.Content.{Names}
use Rattle.archive_shape_layout.proofs.Evaluate.{Answer, unfinished, refused, found, Reading, evaluate_root}
use Rattle.archive_shape_layout.proofs.Evaluated.{root_found}
use Rattle.archive_shape_layout.specs.Finding.{Root, RootIsFound}
use Rattle.archive_shape_layout.proofs.Least.{passing}
use Rattle.archive_shape_layout.proofs.Finishes.{root_finishes}

abbrev is_found : {A : Type 0} → Answer A → Bool
is_found unfinished = false
is_found refused = false
is_found (found r) = true

module _ (names : Names) (bytes : List ℕ) (pos : ℕ) (s : Shape) where
  from_root : Root names bytes pos s → (n : ℕ) × is_found (evaluate_root n names bytes pos s) ≡ true
  from_root r = let f = root_finishes names bytes pos s r.value r.regions r.visits r.root in (f.height, ap is_found (f.from_there f.height (le_refl f.height)))

  to_root : (n : ℕ) → is_found (evaluate_root n names bytes pos s) ≡ true → Root names bytes pos s
  to_root n e = by_answer (evaluate_root n names bytes pos s) refl e
    where
      by_answer : (a : Answer Reading) → evaluate_root n names bytes pos s ≡ a → is_found a ≡ true → Root names bytes pos s
      by_answer unfinished is e = absurd (cc)
      by_answer refused is e = absurd (cc)
      by_answer (found r) is e = record { value = r.value; regions = r.regions; visits = r.after; root = root_found names bytes n pos s r.value r.regions r.after is }

pub root_is_found : RootIsFound
root_is_found names bytes pos s known =
    let n = passing (λ n. is_found (evaluate_root n names bytes pos s)) (∥∥₁_map known (from_root names bytes pos s)) in
    to_root names bytes pos s n.0 n.1
