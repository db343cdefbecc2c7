-- A table of items whose keys are texts, and ascend, is filled by first fit.
use Rattle.std.proofs.Common.{◌≡◌, ℕ, List, [], ◌∷◌, length, map, refl, sym, ap, ap₂, ◌∙◌, arith}
use Rattle.std.specs.List.{AllByRecursion}
use Rattle.std.proofs.lemmas.List.{length-map}
use Rattle.archive_shape_layout.specs.Shape.{Shape}
use Rattle.archive_shape_layout.specs.Value.{Value, count_values}
use Rattle.archive_shape_layout.specs.Value.Value.{string, group}
use Rattle.archive_shape_layout.specs.Value.Values.{no_values, more_values}
use Rattle.archive_shape_canonical.specs.FirstFit.{ascending, controls_of, first_fit, fitted_from, items_of, keys_in, map_capacity, placed, placed_keys, present, text_key, written_controls}
use Rattle.archive_shape_canonical.specs.Seen.{key_alone, keys_alone}
use Rattle.archive_shape_canonical.specs.Settled.{Fit}
use Rattle.archive_forms_laws.specs.State.{Keys}
use Rattle.archive_forms_laws.specs.Spelling.{Spelling}
use Rattle.archive_forms_laws.specs.Regions.{plain_values, all_suit}
use Rattle.archive_hash_writing.specs.Fitted.{by_place}
use Rattle.archive_hash_writing.specs.Tables.{IsFilledBy}
use Rattle.archive_hash_writing.proofs.SpellingFitting.{length-by_place}
use Rattle.archive_hash_writing.proofs.Placed.{placed_mapped, placed_each, keys_by_place}

pub map_twice : {A B C : Type 0} (f : B → C) (g : A → B) (xs : List A) → map f (map g xs) ≡ map (λ x. f (g x)) xs
map_twice f g [] = refl
map_twice f g (x ∷ xs) = ap (λ ys. f (g x) ∷ ys) (map_twice f g xs)

module _ {A R : Type 0} (w : Spelling A R) (key : A → List ℕ) where
  -- of an item its key alone
  abbrev pub IsKeyedBy : A → Type 0
  IsKeyedBy x = key_alone (w.plain x) ≡ group (more_values (string (key x)) no_values)

  module _ (keyed : (x : A) → IsKeyedBy x) where
    alone_keys : (xs : List A) → keys_in (keys_alone (plain_values w xs)) ≡ map key xs
    alone_keys [] = refl
    alone_keys (x ∷ xs) = ap₂ (λ (v : Value) ks. text_key v ∷ ks) (keyed x) (alone_keys xs)

    alone_items : (xs : List A) → items_of (map key xs) ≡ keys_alone (plain_values w xs)
    alone_items [] = refl
    alone_items (x ∷ xs) = ap₂ more_values (sym (keyed x)) (alone_items xs)

    alone_count : (xs : List A) → count_values (keys_alone (plain_values w xs)) ≡ length xs
    alone_count [] = refl
    alone_count (x ∷ xs) = let rest = alone_count xs in omega (arith, rest)

    module _ (s : Shape) (hash : List ℕ → ℕ) where
      pub filled_by : (xs : List A) → ascending (map key xs) ≡ map key xs → IsFilledBy 7 8 s w (map (λ x. hash (key x)) xs) (first_fit hash) xs
      filled_by [] stay = tt
      filled_by (x ∷ xs) stay =
          let all : List A = x ∷ xs in
          let ks = map key all in
          let hashes = map (λ y. hash (key y)) all in
          let cap = map_capacity (length all) in
          let qs = fitted_from cap [] hashes in
          let ys = by_place 7 8 hashes all in
          let found : map hash ks ≡ hashes = map_twice hash key all in
          let even : length hashes ≡ length all = length-map all (λ y. hash (key y)) in
          let moved : present (placed cap qs ks) ≡ map key ys = placed_mapped key cap qs all in
          let seen : map key ys ≡ by_place 7 8 hashes ks = sym moved ∙ ap (λ n. present (placed (map_capacity n) (fitted_from (map_capacity n) [] hashes) ks)) (sym (length-map all key)) in
          let ordered : ascending (keys_in (keys_alone (plain_values w ys))) ≡ ks =
          ap ascending (alone_keys ys ∙ seen) ∙ keys_by_place 7 8 hashes ks (even ∙ sym (length-map all key)) ∙ stay in
          let count : count_values (keys_alone (plain_values w ys)) ≡ length all = alone_count ys ∙ length-by_place 7 8 hashes all even (omega arith) in (
            refl,
            ap₂ (λ n ls. controls_of hash (map_capacity n) ls) count ordered ∙ ap (λ hs. written_controls cap hs (fitted_from cap [] hs)) found,
            ap₂ (λ n ls. items_of (placed_keys hash (map_capacity n) ls)) count ordered
                ∙ ap (λ hs. items_of (present (placed cap (fitted_from cap [] hs) ks))) found ∙ ap items_of moved ∙ alone_items ys,
          )

-- all items suit where each does
suit_each : {A R : Type 0} (w : Spelling A R) (fit : Fit) (given : Keys) (xs : List A) → all_suit w fit given xs → AllByRecursion (λ x. w.suits fit given x) xs
suit_each w fit given [] h = tt
suit_each w fit given (x ∷ xs) h = (h.0, suit_each w fit given xs h.1)

each_suits : {A R : Type 0} (w : Spelling A R) (fit : Fit) (given : Keys) (xs : List A) → AllByRecursion (λ x. w.suits fit given x) xs → all_suit w fit given xs
each_suits w fit given [] h = tt
each_suits w fit given (x ∷ xs) h = (h.0, each_suits w fit given xs h.1)

-- in a table as in a list
pub all_suit_placed : {A R : Type 0} (w : Spelling A R) (fit : Fit) (given : Keys) (cap : ℕ) (qs : List ℕ) (xs : List A) → all_suit w fit given xs → all_suit w fit given (present (placed cap qs xs))
all_suit_placed {A = A} w fit given cap qs xs h =
    let P : A → Type 0 = λ x. w.suits fit given x in
    each_suits w fit given (present (placed cap qs xs)) (placed_each P cap qs xs (suit_each w fit given xs h))
