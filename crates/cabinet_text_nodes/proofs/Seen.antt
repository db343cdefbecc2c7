-- Slices in a set, found by a test.
use Rattle.std.proofs.Common.{◌≡◌, ℕ, Bool, true, false, ◌||◌, List, [], ◌∷◌, refl, Bor}
use Rattle.std.specs.BTreeSet.{insert_key}
use Rattle.std.specs.Cmp.Lexicographic.{slice_cmp}
use Rattle.std.specs.declared.cmp.Ordering.{Ordering}
use Rattle.std.specs.declared.cmp.Ordering.TheVariants.{Less, Equal, Greater}
use Rattle.std.specs.List.{list_any}
use Rattle.std.specs.Ordering.{nat_cmp}
use Rattle.std.proofs.lemmas.Map.Lookups.{exact_bytes}

-- the order of slices by their bytes
abbrev pub slices_cmp : Bor (List ℕ) → Bor (List ℕ) → Ordering
slices_cmp x y = slice_cmp nat_cmp x.now y.now

once : (b c : Bool) → (b || c) ≡ (b || (b || c))
once true c = refl
once false c = refl

swap : (b c d : Bool) → (b || (c || d)) ≡ (c || (b || d))
swap true true d = refl
swap true false d = refl
swap false true d = refl
swap false false d = refl

-- what a test finds among keys, which are ordered by their bytes, after one is inserted
pub found_after : {K : Type 0} (now : K → List ℕ) (f : List ℕ → Bool) (ks : List K) (a : K) → list_any (λ k. f (now k)) (insert_key (λ x y. slice_cmp nat_cmp (now x) (now y)) ks a) ≡ (f (now a) || list_any (λ k. f (now k)) ks)
found_after now f [] a = refl
found_after {K} now f (k ∷ ks) a = by_order (slice_cmp nat_cmp (now a) (now k)) refl (found_after now f ks a) where
  by_order : (o : Ordering) → slice_cmp nat_cmp (now a) (now k) ≡ o → list_any (λ l. f (now l)) (insert_key (λ x y. slice_cmp nat_cmp (now x) (now y)) ks a) ≡ (f (now a) || list_any (λ l. f (now l)) ks)
      → list_any (λ l. f (now l)) (insert_key (λ x y. slice_cmp nat_cmp (now x) (now y)) (k ∷ ks) a) ≡ (f (now a) || list_any (λ l. f (now l)) (k ∷ ks))
  by_order Less is behind = rw is refl
  by_order Equal is behind = rw (is, exact_bytes (now a) (now k) is) (once (f (now k)) (list_any (λ l. f (now l)) ks))
  by_order Greater is behind = rw (is, behind) (swap (f (now k)) (f (now a)) (list_any (λ l. f (now l)) ks))
