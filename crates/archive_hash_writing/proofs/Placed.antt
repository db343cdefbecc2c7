-- What holds of the items of a list holds of those by place, and conversely; items that are seen as others are at the
-- same places.
use Rattle.std.proofs.Common.{◌≡◌, ◌≢◌, ℕ, suc, ◌<◌, Bool, true, false, cond, ◌==◌, List, [], ◌∷◌, length, map, get_or, refl, sym, ap, ap₂, ◌∙◌, arith, Option, Some, None}
use Rattle.std.specs.Prelude.{⊤}
use Rattle.std.specs.List.{AllByRecursion, range_with_len, cons_option}
use Rattle.std.specs.Option.{option_map}
use Rattle.std.proofs.lemmas.List.Sorted.{IsPermutation-sym, All-permutation}
use Rattle.std.proofs.lemmas.List.Elements.{All-from_recursion, recursion_from_All}
use Rattle.archive_shape_canonical.specs.FirstFit.{ascending, item_at, placed, present}
use Rattle.archive_hash_writing.specs.Fitted.{by_place}
use Rattle.archive_hash_writing.proofs.Sorted.{IsNew, ArePlaces, keys_placed}
use Rattle.archive_hash_writing.proofs.SpellingFitting.{length-places, places_below, are_apart}
use Rattle.archive_hash_writing.proofs.SpellingPresent.{AreApart, AreBelow, placed_moved}

-- ---- items that are seen as others

module _ {A B : Type 0} (f : A → B) where
  taken : (b : Bool) (x : A) (o : Option A) → cond b (Some (f x)) (option_map f o) ≡ option_map f (cond b (Some x) o)
  taken true x o = refl
  taken false x o = refl

  pub item_mapped : (xs : List A) (qs : List ℕ) (p : ℕ) → item_at (map f xs) qs p ≡ option_map f (item_at xs qs p)
  item_mapped [] qs p = refl
  item_mapped (x ∷ xs) [] p = refl
  item_mapped (x ∷ xs) (q ∷ qs) p = ap (cond (q == p) (Some (f x))) (item_mapped xs qs p) ∙ taken (q == p) x (item_at xs qs p)

  cons_mapped : (o : Option A) (xs : List A) → cons_option (option_map f o) (map f xs) ≡ map f (cons_option o xs)
  cons_mapped None xs = refl
  cons_mapped (Some x) xs = refl

  present_mapped : (xs : List A) (qs ps : List ℕ) → present (map (item_at (map f xs) qs) ps) ≡ map f (present (map (item_at xs qs) ps))
  present_mapped xs qs [] = refl
  present_mapped xs qs (p ∷ ps) =
      ap₂ (λ o ys. cons_option o ys) (item_mapped xs qs p) (present_mapped xs qs ps) ∙ cons_mapped (item_at xs qs p) (present (map (item_at xs qs) ps))

  pub placed_mapped : (cap : ℕ) (qs : List ℕ) (xs : List A) → present (placed cap qs (map f xs)) ≡ map f (present (placed cap qs xs))
  placed_mapped cap qs xs = present_mapped xs qs (range_with_len 0 cap)

-- ---- what holds of each

module _ {A : Type 0} (P : A → Type 0) where
  abbrev IfThere : Option A → Type 0
  IfThere None = ⊤
  IfThere (Some x) = P x

  there : (xs : List A) (qs : List ℕ) (p : ℕ) → AllByRecursion P xs → IfThere (item_at xs qs p)
  there [] qs p h = tt
  there (x ∷ xs) [] p h = tt
  there (x ∷ xs) (q ∷ qs) p h = tested (q == p) h.0 (there xs qs p h.1)
    where
      tested : (b : Bool) → P x → IfThere (item_at xs qs p) → IfThere (cond b (Some x) (item_at xs qs p))
      tested true here later = here
      tested false here later = later

  each_present : (xs : List A) (qs ps : List ℕ) → AllByRecursion P xs → AllByRecursion P (present (map (item_at xs qs) ps))
  each_present xs qs [] h = tt
  each_present xs qs (p ∷ ps) h = more (item_at xs qs p) (there xs qs p h) (each_present xs qs ps h)
    where
      more : (o : Option A) → IfThere o → AllByRecursion P (present (map (item_at xs qs) ps)) → AllByRecursion P (cons_option o (present (map (item_at xs qs) ps)))
      more None h k = k
      more (Some x) h k = (h, k)

  pub placed_each : (cap : ℕ) (qs : List ℕ) (xs : List A) → AllByRecursion P xs → AllByRecursion P (present (placed cap qs xs))
  placed_each cap qs xs h = each_present xs qs (range_with_len 0 cap) h

  pub each_of_placed : (cap : ℕ) (qs : List ℕ) (xs : List A) → length qs ≡ length xs → AreBelow cap qs → AreApart qs → AllByRecursion P (present (placed cap qs xs)) → AllByRecursion P xs
  each_of_placed cap qs xs even low apart h =
      let ys = present (placed cap qs xs) in
      recursion_from_All P xs (All-permutation P ys xs (IsPermutation-sym xs ys (placed_moved cap xs qs even low apart)) (All-from_recursion P ys h))

-- ---- keys by place

new_by : (q : ℕ) (qs : List ℕ) → ((j : ℕ) → j < length qs → get_or qs j 0 ≢ q) → IsNew q qs
new_by q [] h = tt
new_by q (r ∷ qs) h = (h 0 (omega arith), new_by q qs (λ j l. h (suc j) (omega (arith, l))))

pub are_places : (cap : ℕ) (qs : List ℕ) → AreBelow cap qs → AreApart qs → ArePlaces cap qs
are_places cap [] low apart = tt
are_places cap (q ∷ qs) low apart = (
  low 0 (omega arith),
  new_by q qs (λ j l e. apart 0 (suc j) (omega arith) (omega (arith, l)) (sym e)),
  are_places cap qs (λ j l. low (suc j) (omega (arith, l))) (λ i j l h. apart (suc i) (suc j) (omega (arith, l)) (omega (arith, h))),
)

-- put in ascending order, they are the keys in ascending order
pub keys_by_place : (most places : ℕ) (hashes : List ℕ) (ks : List (List ℕ)) → length hashes ≡ length ks → ascending (by_place most places hashes ks) ≡ ascending ks
keys_by_place most places hashes [] even = refl
keys_by_place most places hashes (k ∷ ks) even =
    let some : 0 < length (k ∷ ks) = omega arith in
    keys_placed _ (k ∷ ks) _ (length-places most places hashes (k ∷ ks) even some)
    (are_places _ _ (places_below most places hashes (k ∷ ks) even some) (are_apart most places hashes (k ∷ ks) even some))
