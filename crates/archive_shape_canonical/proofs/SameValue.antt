-- Whether two values are the same, as a test.
use Rattle.std.proofs.Common.{◌≡◌, ℕ, Bool, true, false, ◌==◌, ◌&&◌, List, [], ◌∷◌, ℤ, pos, negsuc, refl, ap, ap₂, subst, eqb-true}
use Rattle.archive_shape_layout.specs.Value.{Value, Values}
use Rattle.archive_shape_layout.specs.Value.Value.{natural, integer, boolean, string, group, chosen, counted, back}
use Rattle.archive_shape_layout.specs.Value.Values.{no_values, more_values}
use Rattle.archive_shape_layout.proofs.SameShape.{both_left, both_right, both, equal}

abbrev pub same_numbers : List ℕ → List ℕ → Bool
same_numbers [] [] = true
same_numbers (m ∷ ms) (n ∷ ns) = (m == n) && same_numbers ms ns
same_numbers _ _ = false

abbrev same_truth : Bool → Bool → Bool
same_truth true true = true
same_truth false false = true
same_truth _ _ = false

abbrev same_integer : ℤ → ℤ → Bool
same_integer (pos m) (pos n) = m == n
same_integer (negsuc m) (negsuc n) = m == n
same_integer _ _ = false

abbrev mutual
  pub same_value : Value → Value → Bool
  same_value (natural m) (natural n) = m == n
  same_value (integer y) (integer z) = same_integer y z
  same_value (boolean a) (boolean b) = same_truth a b
  same_value (string bs) (string cs) = same_numbers bs cs
  same_value (group vs) (group ws) = same_values vs ws
  same_value (chosen m vs) (chosen n ws) = (m == n) && same_values vs ws
  same_value (counted m v) (counted n w) = (m == n) && same_value v w
  same_value (back m) (back n) = m == n
  same_value _ _ = false

  pub same_values : Values → Values → Bool
  same_values no_values no_values = true
  same_values (more_values v vs) (more_values w ws) = same_value v w && same_values vs ws
  same_values _ _ = false

-- ---- what the tests say

pub numbers_are : (ms ns : List ℕ) → same_numbers ms ns ≡ true → ms ≡ ns
numbers_are [] [] e = refl
numbers_are (m ∷ ms) (n ∷ ns) e = ap₂ (λ x xs. x ∷ xs) (eqb-true m n (both_left _ _ e)) (numbers_are ms ns (both_right (m == n) _ e))
numbers_are _ _ e = absurd (cc)

truth_is : (a b : Bool) → same_truth a b ≡ true → a ≡ b
truth_is true true e = refl
truth_is false false e = refl
truth_is _ _ e = absurd (cc)

integer_is : (y z : ℤ) → same_integer y z ≡ true → y ≡ z
integer_is (pos m) (pos n) e = ap pos (eqb-true m n e)
integer_is (negsuc m) (negsuc n) e = ap negsuc (eqb-true m n e)
integer_is _ _ e = absurd (cc)

mutual
  pub value_is : (v w : Value) → same_value v w ≡ true → v ≡ w
  value_is (natural m) (natural n) e = ap natural (eqb-true m n e)
  value_is (integer y) (integer z) e = ap integer (integer_is y z e)
  value_is (boolean a) (boolean b) e = ap boolean (truth_is a b e)
  value_is (string bs) (string cs) e = ap string (numbers_are bs cs e)
  value_is (group vs) (group ws) e = ap group (values_are vs ws e)
  value_is (chosen m vs) (chosen n ws) e = ap₂ chosen (eqb-true m n (both_left _ _ e)) (values_are vs ws (both_right (m == n) _ e))
  value_is (counted m v) (counted n w) e = ap₂ counted (eqb-true m n (both_left _ _ e)) (value_is v w (both_right (m == n) _ e))
  value_is (back m) (back n) e = ap back (eqb-true m n e)
  value_is _ _ e = absurd (cc)

  pub values_are : (vs ws : Values) → same_values vs ws ≡ true → vs ≡ ws
  values_are no_values no_values e = refl
  values_are (more_values v vs) (more_values w ws) e = ap₂ more_values (value_is v w (both_left _ _ e)) (values_are vs ws (both_right (same_value v w) _ e))
  values_are _ _ e = absurd (cc)

-- ---- a value is the same as itself

numbers_themselves : (ns : List ℕ) → same_numbers ns ns ≡ true
numbers_themselves [] = refl
numbers_themselves (n ∷ ns) = both _ _ (equal n) (numbers_themselves ns)

pub numbers_differ : (ms ns : List ℕ) → same_numbers ms ns ≡ false → ms ≡ ns → ⊥
numbers_differ ms ns e f = let same = subst (λ xs. same_numbers ms xs ≡ true) f (numbers_themselves ms) in cc

truth_itself : (b : Bool) → same_truth b b ≡ true
truth_itself true = refl
truth_itself false = refl

integer_itself : (z : ℤ) → same_integer z z ≡ true
integer_itself (pos n) = equal n
integer_itself (negsuc n) = equal n

mutual
  pub value_itself : (v : Value) → same_value v v ≡ true
  value_itself (natural n) = equal n
  value_itself (integer z) = integer_itself z
  value_itself (boolean b) = truth_itself b
  value_itself (string bs) = numbers_themselves bs
  value_itself (group vs) = values_themselves vs
  value_itself (chosen n vs) = both _ _ (equal n) (values_themselves vs)
  value_itself (counted n v) = both _ _ (equal n) (value_itself v)
  value_itself (back n) = equal n

  values_themselves : (vs : Values) → same_values vs vs ≡ true
  values_themselves no_values = refl
  values_themselves (more_values v vs) = both _ _ (value_itself v) (values_themselves vs)
