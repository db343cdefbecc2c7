-- First fit as a relation: each hash has the first place that its strides show and that none before it took.
use Rattle.std.proofs.Common.{◌≡◌, ℕ, ◌+◌, ◌<◌, ◌≤◌, List, [], ◌∷◌, ◌++◌, length, refl, sym, ap, ◌∙◌, arith, inl, inr, Option, Some, None, length-append}
use Rattle.std.specs.Prelude.{⊤}
use Rattle.std.specs.Option.{unwrap_or}
use Rattle.std.specs.List.{find}
use Rattle.std.proofs.lemmas.Map.Steps.{le-length_from_below}
use Rattle.archive_shape_canonical.specs.FirstFit.{is_free, fitted_from}
use Rattle.archive_shape_canonical.specs.Strides.{places_for}
use Rattle.archive_hash_probing.proofs.Coverage.{every_place}
use Rattle.archive_hash_probing.proofs.FirstFree.{find_some}
use Rattle.archive_hash_probing.proofs.FreePlaces.{search_free}

abbrev pub IsFirstFit : ℕ → List ℕ → List ℕ → List ℕ → Type 0
IsFirstFit cap taken [] [] = ⊤
IsFirstFit cap taken [] (place ∷ places) = ⊥
IsFirstFit cap taken (hash ∷ hashes) [] = ⊥
IsFirstFit cap taken (hash ∷ hashes) (place ∷ places) =
    (find (is_free taken) (places_for hash cap) ≡ Some place) × IsFirstFit cap (taken ++ place ∷ []) hashes places

-- it has one list of places
pub fitted_is : (cap : ℕ) (taken hashes places : List ℕ) → IsFirstFit cap taken hashes places → places ≡ fitted_from cap taken hashes
fitted_is cap taken [] [] fit = refl
fitted_is cap taken [] (place ∷ places) fit = absurd fit
fitted_is cap taken (hash ∷ hashes) [] fit = absurd fit
fitted_is cap taken (hash ∷ hashes) (place ∷ places) fit =
    let first : place ≡ unwrap_or (find (is_free taken) (places_for hash cap)) 0 = sym (ap (λ o. unwrap_or o 0) fit.0) in
    ap (λ ps. place ∷ ps) (fitted_is cap (taken ++ place ∷ []) hashes places fit.1) ∙ ap (λ p. p ∷ fitted_from cap (taken ++ p ∷ []) hashes) first

-- a free place is shown where fewer are taken than there are
pub some_free : (cap hash : ℕ) (taken : List ℕ) → length taken < cap → find (is_free taken) (places_for hash cap) ≡ Some (unwrap_or (find (is_free taken) (places_for hash cap)) 0)
some_free cap hash taken few = elim (search_free taken cap) [
  | inl q ↦ opened (find (is_free taken) (places_for hash cap)) (find_some (is_free taken) q.0 (places_for hash cap) (every_place hash cap q.0 q.1) q.2)
  | inr all ↦ let most = le-length_from_below taken cap all in absurd (omega arith)
]
  where
    opened : (o : Option ℕ) → (o ≡ None → ⊥) → o ≡ Some (unwrap_or o 0)
    opened None never = absurd (never refl)
    opened (Some p) never = refl

-- and there is one, where more places are than hashes
pub first_fit : (cap : ℕ) (taken hashes : List ℕ) → length taken + length hashes ≤ cap → IsFirstFit cap taken hashes (fitted_from cap taken hashes)
first_fit cap taken [] room = tt
first_fit cap taken (hash ∷ hashes) room =
    let place : ℕ = unwrap_or (find (is_free taken) (places_for hash cap)) 0 in
    (some_free cap hash taken (omega arith), first_fit cap (taken ++ place ∷ []) hashes (omega (arith, length-append taken (place ∷ []))))
