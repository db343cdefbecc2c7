-- Adjacent elements are compared one by one.
use Rattle.std.proofs.Common.{◌≡◌, ℕ, zero, suc, ◌+◌, ◌*◌, ◌<◌, min, Bool, true, List, [], ◌∷◌, length, drop, Some, refl, sym, ap, subst, ◌∙◌, arith}
use Rattle.std.specs.declared.cmp.Ordering.{Ordering}
use Rattle.std.specs.declared.cmp.Ordering.TheVariants.{Less, Equal, Greater}
use Rattle.std.specs.Ordering.{nat_cmp, MatchOrdering}
use Rattle.std.specs.Cmp.{ranks}
use Rattle.std.specs.Cmp.Lexicographic.{pointwise, slice_cmp}
use Rattle.std.proofs.lemmas.List.{length-drop}
use Rattle.archive_shape_layout.specs.Shape.{Shape, size_of}
use Rattle.archive_shape_layout.specs.Value.{Value, Values, count_values}
use Rattle.archive_shape_layout.specs.Value.Values.{no_values, more_values}
use Rattle.archive_shape_layout.specs.Content.{Names}
use Rattle.archive_shape_layout.specs.Path.{value_in}
use Rattle.archive_shape.specs.Key.{HeldAt}
use Rattle.archive_forms_laws.specs.Views.{listed, elements_of}
use Rattle.archive_forms_values.specs.Parts.{HasElements, AreElements}
use Rattle.archive_forms_comparing.specs.Compared.{IsElement}

-- ---- the list of a value's elements

length-listed : (vs : Values) → length (listed vs) ≡ count_values vs
length-listed no_values = refl
length-listed (more_values v vs) = ap suc (length-listed vs) ∙ omega arith

drop-listed : (i : ℕ) (vs : Values) (x : Value) → value_in i vs ≡ Some x → drop i (listed vs) ≡ x ∷ drop (suc i) (listed vs)
drop-listed i no_values x e = absurd (cc)
drop-listed zero (more_values v vs) x e = let is : v ≡ x = cc in ap (λ u. u ∷ listed vs) is
drop-listed (suc i) (more_values v vs) x e = drop-listed i vs x e

module _ {s : Shape} {knows : Names → Type 0} {bytes : List ℕ} {start len : ℕ} where
  pub elements_counted : {v : Value} → AreElements s knows bytes start len v → length (elements_of v) ≡ len
  elements_counted h = ap (λ v. length (elements_of v)) h.is ∙ length-listed h.elements ∙ h.count

  pub element_at : {element_bytes : List ℕ} {i at : ℕ} → element_bytes ≡ bytes → at ≡ start + i * size_of s → i < len → HasElements s knows bytes start len → IsElement s knows bytes start len i element_bytes at
  element_at {element_bytes} {i} {at} b p below there =
      let one = there.stand.each i below in
      let to : (x : Value) → HeldAt s knows bytes (start + i * size_of s) x → HeldAt s knows element_bytes at x =
      λ x h. subst (λ bs. HeldAt s knows bs at x) (sym b) (subst (λ n. HeldAt s knows bytes n x) (sym p) h) in
      record {
        there = record { value = one.0; held = to one.0 one.2 };
        each = λ v h.
            let x = h.each i below in
            let whole : drop i (elements_of v) ≡ x.0 ∷ drop (suc i) (elements_of v) =
            ap (λ u. drop i (elements_of u)) h.is ∙ drop-listed i h.elements x.0 x.1 ∙ ap (λ u. x.0 ∷ drop (suc i) (elements_of u)) (sym h.is) in
            let next : suc i ≡ i + 1 = omega arith in
            (x.0, subst (λ n. drop i (elements_of v) ≡ x.0 ∷ drop n (elements_of v)) next whole, to x.0 x.2);
      }

-- ---- equality, where both end

module _ {X : Type 0} (E : X → X → Bool) where
  no_more : (ps qs : List X) → length ps ≡ 0 → length qs ≡ 0 → pointwise E ps qs ≡ true
  no_more [] [] d e = refl
  no_more [] (q ∷ qs) d e = absurd (omega arith)
  no_more (p ∷ ps) qs d e = absurd (omega arith)

  pub equal_ends : (xs ys : List X) (n : ℕ) → length xs ≡ n → length ys ≡ n → pointwise E (drop n xs) (drop n ys) ≡ true
  equal_ends xs ys n p q = no_more (drop n xs) (drop n ys) (omega (arith, length-drop n xs)) (omega (arith, length-drop n ys))

-- ---- order, where one ends

module _ {X : Type 0} (R : X → X → Ordering) where
  both_end : (ps qs : List X) → length ps ≡ 0 → length qs ≡ 0 → slice_cmp R ps qs ≡ Equal
  both_end [] [] d e = refl
  both_end [] (q ∷ qs) d e = absurd (omega arith)
  both_end (p ∷ ps) qs d e = absurd (omega arith)

  first_ends : (ps qs : List X) → length ps ≡ 0 → 0 < length qs → slice_cmp R ps qs ≡ Less
  first_ends [] [] d e = absurd (omega arith)
  first_ends [] (q ∷ qs) d e = refl
  first_ends (p ∷ ps) qs d e = absurd (omega arith)

  second_ends : (ps qs : List X) → 0 < length ps → length qs ≡ 0 → slice_cmp R ps qs ≡ Greater
  second_ends [] qs d e = absurd (omega arith)
  second_ends (p ∷ ps) [] d e = refl
  second_ends (p ∷ ps) (q ∷ qs) d e = absurd (omega arith)

  -- where the shorter list ends, the lengths decide
  pub lengths_decide : (xs ys : List X) (n : ℕ) → n ≡ min (length xs) (length ys) → slice_cmp R (drop n xs) (drop n ys) ≡ nat_cmp (length xs) (length ys)
  lengths_decide xs ys n e = by (nat_cmp (length xs) (length ys)) (ranks (length xs) (length ys))
    where
      by : (r : Ordering) → MatchOrdering r (length xs < length ys) (length xs ≡ length ys) (length ys < length xs) → slice_cmp R (drop n xs) (drop n ys) ≡ r
      by Less h = first_ends (drop n xs) (drop n ys) (omega (arith, length-drop n xs)) (omega (arith, length-drop n ys))
      by Equal h = both_end (drop n xs) (drop n ys) (omega (arith, length-drop n xs)) (omega (arith, length-drop n ys))
      by Greater h = second_ends (drop n xs) (drop n ys) (omega (arith, length-drop n xs)) (omega (arith, length-drop n ys))
