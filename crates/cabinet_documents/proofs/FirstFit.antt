-- The pairs of a hashed map in the order of their places by first fit.
use Rattle.std.proofs.Common.{◌≡◌, ℕ, List, [], ◌∷◌, length, map, refl, sym, ap, ap₂, ◌∙◌, arith}
use Rattle.archive_shape_layout.specs.Value.{Value, Values, count_values}
use Rattle.archive_shape_layout.specs.Value.Values.{no_values, more_values}
use Rattle.archive_shape_canonical.specs.FirstFit.{fitted_from, keys_in, map_capacity, places_of, placed, present, text_key}
use Rattle.archive_shape_canonical.specs.Hash.{text_hash}
use Rattle.archive_forms_laws.specs.Spelling.{Spelling}
use Rattle.archive_forms_laws.specs.Regions.{plain_values}
use Rattle.archive_forms_laws.specs.Views.{listed}
use Rattle.archive_hash_writing.specs.Fitted.{by_place}
use Rattle.archive_hash_writing.proofs.Placed.{placed_mapped}

-- values that are given as a list
abbrev pub values_in : List Value → Values
values_in [] = no_values
values_in (v ∷ vs) = more_values v (values_in vs)

-- pairs as they come, put in the order of their places
abbrev pub by_first_fit : Values → Values
by_first_fit vs =
    let cap = map_capacity (count_values vs) in values_in (present (placed cap (places_of text_hash cap (keys_in vs)) (listed vs)))

-- ---- items that have values

module _ {A : Type 0} (g : A → Value) (key : A → List ℕ) (keyed : (x : A) → text_key (g x) ≡ key x) where
  count_mapped : (xs : List A) → count_values (values_in (map g xs)) ≡ length xs
  count_mapped [] = refl
  count_mapped (x ∷ xs) = let rest = count_mapped xs in omega (arith, rest)

  hashes_mapped : (xs : List A) → map text_hash (keys_in (values_in (map g xs))) ≡ map (λ x. text_hash (key x)) xs
  hashes_mapped [] = refl
  hashes_mapped (x ∷ xs) = ap₂ (λ k ns. text_hash k ∷ ns) (keyed x) (hashes_mapped xs)

  pub listed_mapped : (xs : List A) → listed (values_in (map g xs)) ≡ map g xs
  listed_mapped [] = refl
  listed_mapped (x ∷ xs) = ap (λ vs. g x ∷ vs) (listed_mapped xs)

  -- their values by place are those of the items by place
  pub first_fit_mapped : (xs : List A) → by_first_fit (values_in (map g xs)) ≡ values_in (map g (by_place 7 8 (map (λ x. text_hash (key x)) xs) xs))
  first_fit_mapped xs =
      let cap = map_capacity (length xs) in
      (λ i. let room = map_capacity (count_mapped xs i) in values_in (present (placed room (fitted_from room [] (hashes_mapped xs i)) (listed_mapped xs i))))
      ∙ ap values_in (placed_mapped g cap (fitted_from cap [] (map (λ x. text_hash (key x)) xs)) xs)

plain_mapped : {A R : Type 0} (w : Spelling A R) (xs : List A) → plain_values w xs ≡ values_in (map w.plain xs)
plain_mapped w [] = refl
plain_mapped w (x ∷ xs) = ap (more_values (w.plain x)) (plain_mapped w xs)

-- the values of a table's items are by first fit
pub first_fit_plain : {A R : Type 0} (w : Spelling A R) (key : A → List ℕ) → ((x : A) → text_key (w.plain x) ≡ key x)
    → (xs : List A) → plain_values w (by_place 7 8 (map (λ x. text_hash (key x)) xs) xs) ≡ by_first_fit (plain_values w xs)
first_fit_plain w key keyed xs =
    plain_mapped w (by_place 7 8 (map (λ x. text_hash (key x)) xs) xs) ∙ sym (first_fit_mapped w.plain key keyed xs) ∙ ap by_first_fit (sym (plain_mapped w xs))
