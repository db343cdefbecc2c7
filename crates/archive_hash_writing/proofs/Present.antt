-- The items at the places of a table, by ascending place.
use Rattle.std.proofs.Common.{◌≡◌, ℕ, ◌+◌, ◌<◌, ◌≤◌, List, [], ◌∷◌, length, drop, map, get_or, sym, ap, subst, ◌∙◌, arith, Option, Some, None, length-drop}
use denote.Bor.{Bor}
use Rattle.std.proofs.lemmas.List.{drop-drop, drop_more, drop_all, get_or-drop}
use Rattle.archive_shape_canonical.specs.FirstFit.{present}
use Rattle.archive_hash_writing.specs.Standing.{standing}

-- ---- the rest of a list

-- a list whose rest begins with an element has that element there
pub there : {A : Type 0} (xs ys : List A) (k : ℕ) (x : A) → drop k xs ≡ x ∷ ys → (k < length xs) × (x ≡ get_or xs k x)
there xs ys k x e =
    (omega (arith, length-drop k xs, ap length e), ap (λ l. get_or l 0 x) (sym e) ∙ get_or-drop k xs 0 x ∙ ap (λ n. get_or xs n x) (omega arith))

pub behind : {A : Type 0} (xs ys : List A) (k : ℕ) (x : A) → drop k xs ≡ x ∷ ys → drop (k + 1) xs ≡ ys
behind xs ys k x e = sym (drop-drop 1 k xs) ∙ ap (drop 1) e

-- an element that is read, for an equal element
pub read_as : {B : Type 0} (xs : List B) (i : ℕ) (o q : B) → o ≡ get_or xs i o → o ≡ q → q ≡ get_or xs i q
read_as {B = B} xs i o q is e = let P : B → Type 0 = λ y. y ≡ get_or xs i y in subst P e is

module _ {A : Type 0} (table : List (Option (Bor A))) where
  -- the items in the table, and those from a place on
  abbrev pub items : List A
  items = present (map standing table)

  abbrev pub items_from : ℕ → List A
  items_from p = present (map standing (drop p table))

  from_next : (p : ℕ) (o : Option (Bor A)) → p < length table → o ≡ get_or table p o → items_from p ≡ present (standing o ∷ map standing (drop (p + 1) table))
  from_next p o less is = ap (λ l. present (map standing l)) (drop_more table p o less ∙ ap (λ q. q ∷ drop (p + 1) table) (sym is))

  -- there is no item at a place
  pub passed_none : (p k : ℕ) → p < length table → None ≡ get_or table p None → drop k items ≡ items_from p → drop k items ≡ items_from (p + 1)
  passed_none p k less is e = e ∙ from_next p None less is

  -- there is an item
  pub passed_item : (p k : ℕ) (r : Bor A) → p < length table → Some r ≡ get_or table p (Some r) → drop k items ≡ items_from p → drop k items ≡ r.now ∷ items_from (p + 1)
  passed_item p k r less is e = e ∙ from_next p (Some r) less is

  pub passed_all : (p k : ℕ) → length table ≤ p → drop k items ≡ items_from p → drop k items ≡ []
  passed_all p k end e = e ∙ ap (λ l. present (map standing l)) (drop_all p table end)
