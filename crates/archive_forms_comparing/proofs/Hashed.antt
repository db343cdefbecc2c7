-- What is hashed of adjacent elements.
use Rattle.std.proofs.Common.{◌≡◌, ℕ, List, [], ◌∷◌, ◌++◌, length, drop, refl, sym, ap, ◌∙◌, arith}
use Rattle.std.specs.List.{fold, flat_map}
use Rattle.std.specs.Hash.{fed_then}
use Rattle.std.specs.Hash as fed
use Rattle.std.proofs.lemmas.List.{length-drop}
use Rattle.archive_shape_layout.specs.Value.{Value}

no_elements : (xs : List Value) → length xs ≡ 0 → xs ≡ []
no_elements [] e = refl
no_elements (x ∷ xs) e = absurd (omega arith)

-- past all elements nothing is left
pub none_left : (xs : List Value) (n : ℕ) → length xs ≡ n → drop n xs ≡ []
none_left xs n e = no_elements (drop n xs) (omega (arith, length-drop n xs))

-- what is hashed of a length, and then of the elements
pub length_hashed : {S : Type 0} (write : S → List ℕ → S) (F : Value → List (List ℕ)) (s t : S) (n : ℕ) (xs : List Value)
    → length xs ≡ n → t ≡ fold write s (fed.usize n) → fold write t (flat_map F xs) ≡ fold write s (fed.slice F xs)
length_hashed write F s t n xs e p =
    fed_then write s t _ (fed.usize n) (flat_map F xs) p refl ∙ ap (λ m. fold write s (fed.usize m ++ flat_map F xs)) (sym e)
