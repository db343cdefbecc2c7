-- Where each number below n is met among at most n elements that pass a test, all of them pass.
use Rattle.std.specs.List.{Contains}
use Rattle.std.specs.Prelude.{count_by}
use Rattle.std.proofs.Common.{◌≡◌, ℕ, zero, suc, ◌+◌, ◌<◌, ◌≤◌, ◌==◌, ◌&&◌, nat_lt, Bool, true, false, cond, List, [], ◌∷◌, length, inl, inr, refl, ap, sym, subst, arith}
use Rattle.std.proofs.lemmas.Bool.{and_parts, cases_Bool}
use Rattle.std.proofs.lemmas.Bool.Decides.{nat_tests}
use Rattle.std.proofs.lemmas.List.Sums.{count_by-le-length, sum_by-cons}

abbrev one : Bool → ℕ
one b = cond b 1 0

module _ {X : Type 0} where
  more : (p : X → Bool) (x : X) (xs : List X) → count_by p (x ∷ xs) ≡ one (p x) + count_by p xs
  more p x xs = sum_by-cons (λ y. cond (p y) 1 0) x xs

  -- one that passes is counted
  met : (p : X → Bool) (xs : List X) (x : X) → Contains xs x → p x ≡ true → 1 ≤ count_by p xs
  met p [] x c passes = let a = c.1 in absurd (omega (arith, a))
  met p (y ∷ ys) x (zero, a, is) passes =
      let here : one (p y) ≡ 1 = ap one (subst (λ z. p z ≡ true) (sym is) passes) in
      omega (arith, here, more p y ys)
  met p (y ∷ ys) x (suc i, a, is) passes =
      let later = met p ys x (i, omega (arith, a), is) passes in
      omega (arith, later, more p y ys)

  -- where as many are counted as there are, all pass
  passes_here : (p : X → Bool) (y : X) (ys : List X) (x : X) → p y ≡ true → Contains (y ∷ ys) x → (Contains ys x → p x ≡ true) → p x ≡ true
  passes_here p y ys x good (zero, a, is) later = subst (λ z. p z ≡ true) is good
  passes_here p y ys x good (suc i, a, is) later = later (i, omega (arith, a), is)

  all_pass : (p : X → Bool) (xs : List X) → length xs ≤ count_by p xs → (x : X) → Contains xs x → p x ≡ true
  all_pass p [] full x c = let a = c.1 in absurd (omega (arith, a))
  all_pass p (y ∷ ys) full x c = elim (cases_Bool (p y)) [
    | inl good ↦ passes_here p y ys x good c (λ later. let here : one (p y) ≡ 1 = ap one good in all_pass p ys (omega (arith, here, more p y ys, full)) x later)
    | inr bad ↦ absurd (let here : one (p y) ≡ 0 = ap one bad in omega (arith, here, more p y ys, count_by-le-length p ys, full))
  ]

  module _ (passes : X → Bool) (number : X → ℕ) where
    abbrev below : ℕ → X → Bool
    below k x = passes x && nat_lt (number x) k

    abbrev with_number : ℕ → X → Bool
    with_number k x = passes x && (number x == k)

    parts : (b : Bool) (n k : ℕ) → one (b && nat_lt n (suc k)) ≡ one (b && nat_lt n k) + one (b && (n == k))
    parts false n k = refl
    parts true n k = grind (arith, nat_tests)

    step : (k : ℕ) (xs : List X) → count_by (below (suc k)) xs ≡ count_by (below k) xs + count_by (with_number k) xs
    step k [] = refl
    step k (x ∷ xs) = omega (arith, more (below (suc k)) x xs, more (below k) x xs, more (with_number k) x xs, step k xs, parts (passes x) (number x) k)

    each_counted : (n : ℕ) (xs : List X) → ((i : ℕ) → i < n → (x : X) × Contains xs x × (with_number i x ≡ true)) → n ≤ count_by (below n) xs
    each_counted zero xs h = omega arith
    each_counted (suc n) xs h =
        let last = h n (omega arith) in
        let rest = each_counted n xs (λ i less. h i (omega (arith, less))) in
        omega (arith, rest, step n xs, met (with_number n) xs last.0 last.1 last.2)

    -- each of n numbers is met, and there are no more elements
    pub all_met : (n : ℕ) (xs : List X) → length xs ≤ n → ((i : ℕ) → i < n → (x : X) × Contains xs x × (with_number i x ≡ true)) → (x : X) → Contains xs x → passes x ≡ true
    all_met n xs few h x c = (and_parts (passes x) (nat_lt (number x) n) (all_pass (below n) xs (omega (arith, few, each_counted n xs h)) x c)).0
