-- First fit by the hashes of keys that are texts fills index maps as they are written.
use Rattle.std.proofs.Common.{◌≡◌, ◌∙◌, ℕ, suc, ◌+◌, ◌==◌, Bool, true, false, cond, Option, Some, None, List, [], ◌∷◌, ◌++◌, length, map, refl, ap, ap₂, sym, arith}
use Rattle.std.specs.Option.{unwrap_or}
use Rattle.std.specs.List.{cons_option, find, flat_map, range_with_len}
use Rattle.std.proofs.lemmas.List.{length-map}
use Rattle.std.proofs.lemmas.List.Concat.{flat_map-cons}
use Rattle.std.proofs.lemmas.List.FromFn.{length-range_with_len}
use Rattle.archive_shape_layout.specs.Shape.{Shape}
use Rattle.archive_shape_layout.specs.Shape.Shape.{text}
use Rattle.archive_shape_layout.specs.Value.{Value, Values, count_values}
use Rattle.archive_shape_layout.specs.Value.Value.{natural, string, group}
use Rattle.archive_shape_layout.specs.Value.Values.{more_values, no_values}
use Rattle.archive_shape_canonical.specs.Hash.{text_hash}
use Rattle.archive_shape_canonical.specs.Strides.{places_for}
use Rattle.archive_shape_canonical.specs.FirstFit.{capacity_for, first_fit, fitted_from, is_free, item_at, keys_in, numbers_at, placed, present, text_key, written_controls}
use Rattle.archive_shape_canonical.specs.Seen.{key_alone, keys_alone}
use Rattle.archive_forms_values.specs.Tuples.{tuple2}
use Rattle.archive_forms_laws.specs.Spelling.{Spelling}
use Rattle.archive_forms_laws.specs.Regions.{plain_values}
use Rattle.archive_forms_laws.specs.Fields.{tuple2_spelling}
use Rattle.archive_forms_laws.specs.Texts.{text_spelling}
use Rattle.archive_forms_laws.specs.Sample.{number_shape, number_spelling}
use Rattle.archive_hash_writing.specs.IndexMaps.{numbers, IsKeptBy}
use Rattle.archive_hash_writing.specs.IndexLaws.{TextsAreKept}

-- ---- the number at a place

-- the value of an option, if it has one, as a list
abbrev listed : Option ℕ → List ℕ
listed None = []
listed (Some n) = n ∷ []

numbers_listed : (i : ℕ) (qs : List ℕ) (p : ℕ) → numbers_at i qs p ≡ listed (item_at (range_with_len i (length qs)) qs p)
numbers_listed i [] p = refl
numbers_listed i (q ∷ qs) p = tested (q == p) (numbers_at (i + 1) qs p) (item_at (range_with_len (i + 1) (length qs)) qs p) (numbers_listed (i + 1) qs p)
  where
    tested : (b : Bool) (ns : List ℕ) (o : Option ℕ) → ns ≡ listed o → cond b (i ∷ []) ns ≡ listed (cond b (Some i) o)
    tested true ns o e = refl
    tested false ns o e = e

present_listed : (f : ℕ → List ℕ) (g : ℕ → Option ℕ) → ((p : ℕ) → f p ≡ listed (g p)) → (ps : List ℕ) → flat_map f ps ≡ present (map g ps)
present_listed f g e [] = refl
present_listed f g e (p ∷ ps) = flat_map-cons f p ps ∙ ap₂ (λ xs ys. xs ++ ys) (e p) (present_listed f g e ps) ∙ joined (g p) (present (map g ps))
  where
    joined : (o : Option ℕ) (ns : List ℕ) → listed o ++ ns ≡ cons_option o ns
    joined None ns = refl
    joined (Some n) ns = refl

-- by ascending place
pub numbers_placed : (cap : ℕ) (qs : List ℕ) → flat_map (numbers_at 0 qs) (range_with_len 0 cap) ≡ present (placed cap qs (range_with_len 0 (length qs)))
numbers_placed cap qs = present_listed (numbers_at 0 qs) (item_at (range_with_len 0 (length qs)) qs) (numbers_listed 0 qs) (range_with_len 0 cap)

-- each hash has a place
length-fitted : (cap : ℕ) (taken hashes : List ℕ) → length (fitted_from cap taken hashes) ≡ length hashes
length-fitted cap taken [] = refl
length-fitted cap taken (hash ∷ hashes) =
    let place = unwrap_or (find (is_free taken) (places_for hash cap)) 0 in ap suc (length-fitted cap (taken ++ place ∷ []) hashes)

-- ---- entries whose keys are texts

-- a value is a group whose first member is this text
pub record HasTextKey (v : Value) (key : List ℕ) : Type 0 where
  pub rest : Values
  pub is : v ≡ group (more_values (string key) rest)

module _ {A R : Type 0} (s : Shape) (w : Spelling A R) (key : A → List ℕ) (texts : (x : A) → HasTextKey (w.plain x) (key x)) (hash : A → ℕ) (hashed : (x : A) → hash x ≡ text_hash (key x)) where
  counts_are : (xs : List A) → count_values (keys_alone (plain_values w xs)) ≡ length xs
  counts_are [] = refl
  counts_are (x ∷ xs) = let rest = counts_are xs in omega (arith, rest)

  keys_are : (xs : List A) → keys_in (keys_alone (plain_values w xs)) ≡ map key xs
  keys_are [] = refl
  keys_are (x ∷ xs) = ap₂ (λ k ks. k ∷ ks) (ap (λ v. text_key (key_alone v)) (texts x).is) (keys_are xs)

  hashes_are : (xs : List A) → map text_hash (map key xs) ≡ map hash xs
  hashes_are [] = refl
  hashes_are (x ∷ xs) = ap₂ (λ h hs. h ∷ hs) (sym (hashed x)) (hashes_are xs)

  module _ (xs : List A) where
    count_is : count_values (keys_alone (plain_values w xs)) ≡ length (numbers xs)
    count_is = counts_are xs ∙ sym (length-range_with_len 0 (length xs))

    inputs_are : map text_hash (keys_in (keys_alone (plain_values w xs))) ≡ map hash xs
    inputs_are = ap (map text_hash) (keys_are xs) ∙ hashes_are xs

    -- the places of the numbers
    abbrev given : ℕ → List ℕ → List ℕ
    given n hs = fitted_from (capacity_for n 7 8) [] hs

    numbers_are : flat_map (numbers_at 0 (given (length (numbers xs)) (map hash xs))) (range_with_len 0 (capacity_for (length (numbers xs)) 7 8))
        ≡ present (map (item_at (numbers xs) (given (length (numbers xs)) (map hash xs))) (range_with_len 0 (capacity_for (length (numbers xs)) 7 8)))
    numbers_are =
        let cap = capacity_for (length (numbers xs)) 7 8 in
        let places = given (length (numbers xs)) (map hash xs) in
        let long : length places ≡ length xs = length-fitted cap [] (map hash xs) ∙ length-map xs hash in
        numbers_placed cap places
        ∙ ap (λ n. present (map (item_at (range_with_len 0 n) places) (range_with_len 0 cap))) long

  pub texts_kept : (xs : List A) → IsKeptBy 7 8 s w (map hash xs) (first_fit text_hash) xs
  texts_kept [] = tt
  texts_kept (x ∷ xs) = (
    refl,
    ap₂ (λ n hs. written_controls (capacity_for n 7 8) hs (fitted_from (capacity_for n 7 8) [] hs)) (count_is (x ∷ xs)) (inputs_are (x ∷ xs)),
    ap₂ (λ n hs. flat_map (numbers_at 0 (fitted_from (capacity_for n 7 8) [] hs)) (range_with_len 0 (capacity_for n 7 8))) (count_is (x ∷ xs)) (inputs_are (x ∷ xs)) ∙ numbers_are (x ∷ xs),
  )

pub texts_are_kept_law : TextsAreKept
texts_are_kept_law xs =
    texts_kept (tuple2 text number_shape) (tuple2_spelling text text_spelling number_shape number_spelling) (λ e. e.0) (λ e. record { rest = more_values (natural e.1) no_values; is = refl }) (λ e. text_hash e.0) (λ e. refl) xs
