-- The items at the places of a table are among its items.
use Rattle.std.proofs.Common.{◌≡◌, ℕ, zero, suc, ◌<◌, List, [], ◌∷◌, length, map, get_or, cond, Bool, true, false, ◌==◌, refl, sym, ap, ◌∙◌, arith, Option, Some, None}
use Rattle.std.specs.List.{range_with_len, cons_option}
use Rattle.archive_shape_canonical.specs.FirstFit.{item_at, placed, present}
use Rattle.archive_forms_writing.specs.Steps.{IsElement}

module _ {A : Type 0} where
  later : (x : A) (xs : List A) (y : A) → IsElement xs y → IsElement (x ∷ xs) y
  later x xs y h = (suc h.0, (let less = h.1 in omega arith), h.2)

  earlier : (x : A) (xs : List A) (y : A) (i : ℕ) → suc i < length (x ∷ xs) → y ≡ get_or (x ∷ xs) (suc i) y → IsElement xs y
  earlier x xs y i less is = (i, omega arith, is)

  -- the item at a place
  chosen : (x : A) (xs : List A) (y : A) (b : Bool) (o : Option A) → (o ≡ Some y → IsElement xs y) → cond b (Some x) o ≡ Some y → IsElement (x ∷ xs) y
  chosen x xs y true o others e = (0, omega arith, cc)
  chosen x xs y false o others e = later x xs y (others e)

  item_among : (xs : List A) (qs : List ℕ) (p : ℕ) (y : A) → item_at xs qs p ≡ Some y → IsElement xs y
  item_among [] qs p y e = absurd (cc)
  item_among (x ∷ xs) [] p y e = absurd (cc)
  item_among (x ∷ xs) (q ∷ qs) p y e = chosen x xs y (q == p) (item_at xs qs p) (item_among xs qs p y) e

  -- each item there is at some place
  abbrev IsAtSome : (ℕ → Option A) → A → Type 0
  IsAtSome f y = (p : ℕ) × (f p ≡ Some y)

  found : (f : ℕ → Option A) (p : ℕ) (rest : List A) (y : A) (o : Option A) → f p ≡ o → ((j : ℕ) → j < length rest → y ≡ get_or rest j y → IsAtSome f y)
      → (i : ℕ) → i < length (cons_option o rest) → y ≡ get_or (cons_option o rest) i y → IsAtSome f y
  found f p rest y None e others i less is = others i less is
  found f p rest y (Some z) e others zero less is = (p, e ∙ ap Some (sym is))
  found f p rest y (Some z) e others (suc j) less is = others j (omega arith) is

  present_at : (f : ℕ → Option A) (ps : List ℕ) (y : A) (i : ℕ) → i < length (present (map f ps)) → y ≡ get_or (present (map f ps)) i y → IsAtSome f y
  present_at f [] y i less is = absurd (omega arith)
  present_at f (p ∷ ps) y i less is = found f p (present (map f ps)) y (f p) refl (present_at f ps y) i less is

  pub among_items : (cap : ℕ) (qs : List ℕ) (xs : List A) (y : A) → IsElement (present (placed cap qs xs)) y → IsElement xs y
  among_items cap qs xs y h = let found = present_at (item_at xs qs) (range_with_len 0 cap) y h.0 h.1 h.2 in item_among xs qs found.0 y found.1
