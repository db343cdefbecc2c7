-- Sums of the elements of a vector, one more at a time, and of a text's length and last byte.
use Rattle.std.proofs.Common.{◌≡◌, ℕ, zero, suc, ◌+◌, ◌-◌, ◌*◌, ◌%◌, ◌^◌, ◌<◌, List, [], ◌∷◌, length, take, Option, Some, None, refl, ap, sym, subst, ◌∙◌, add-one, arith}
use Rattle.std.specs.Prelude.{⊤, slice_get, unwrap_or}
use Rattle.std.proofs.lemmas.Option.{slice_get-get_or}
use Rattle.std.specs.List.{sum_by}
use Rattle.std.proofs.Math.Nat.{mod-add-mod}
use Rattle.std.proofs.lemmas.List.Sums.{sum_by-cons}
use Rattle.archive_shape_layout.specs.Shape.{Shape, size_of}
use Rattle.archive_shape_layout.specs.Shape.Shape.{vector}
use Rattle.archive_shape_layout.specs.Value.{Value, Values, count_values}
use Rattle.archive_shape_layout.specs.Value.Values.{no_values, more_values}
use Rattle.archive_shape_layout.specs.Path.{value_in}
use Rattle.archive_shape.specs.Key.{HeldAt}
use Rattle.archive_forms_laws.specs.Views.{listed, elements_of}
use Rattle.archive_forms_values.specs.Parts.{HasValue, AreElements, IsVecAt}
use Rattle.archive_bench.specs.FormsSums.{IsOf, sum_of, length_and_last}
use Rattle.archive_bench.proofs.Held.{element_held}

-- a vector is read at `from` of `there`, which is the same place
pub vec_there : (s : Shape) (bytes there : List ℕ) (pos from to len : ℕ) → there ≡ bytes → from ≡ pos → IsVecAt s (λ _. ⊤) there from to len → IsVecAt s (λ _. ⊤) bytes pos to len
vec_there s bytes there pos from to len same own h = subst (λ n. IsVecAt s (λ _. ⊤) bytes n to len) own (subst (λ bs. IsVecAt s (λ _. ⊤) bs from to len) same h)

-- a value lies at each index
pub vec_element : (s : Shape) (bytes : List ℕ) (pos to len : ℕ) → IsVecAt s (λ _. ⊤) bytes pos to len → HasValue (vector s) (λ _. ⊤) bytes pos
    → (i at : ℕ) → i < len → at ≡ to + i * size_of s → HasValue s (λ _. ⊤) bytes at
vec_element s bytes pos to len there has i at less e =
    element_held s (λ _. ⊤) bytes to len i at (record { value = has.value; stand = there.value has.value has.held }) less e

module _ (f : Value → ℕ) where
  sum_more : (vs : Values) (i : ℕ) (x : Value) → value_in i vs ≡ Some x → sum_by f (take (suc i) (listed vs)) ≡ sum_by f (take i (listed vs)) + f x
  sum_more no_values i x e = absurd (cc)
  sum_more (more_values v vs) zero x e =
      let is : v ≡ x = cc in
      ap (λ u. 0 + f u) is
  sum_more (more_values v vs) (suc i) x e =
      let rest = sum_more vs i x e in
      omega (arith, sum_by-cons f v (take (suc i) (listed vs)), sum_by-cons f v (take i (listed vs)), rest)

  sum_all : (vs : Values) → sum_by f (take (count_values vs) (listed vs)) ≡ sum_by f (listed vs)
  sum_all no_values = refl
  sum_all (more_values v vs) =
      let count : 1 + count_values vs ≡ suc (count_values vs) = omega arith in
      ap (λ n. sum_by f (take n (v ∷ listed vs))) count
      ∙ sum_by-cons f v (take (count_values vs) (listed vs))
      ∙ ap (λ n. f v + n) (sum_all vs)
      ∙ sym (sum_by-cons f v (listed vs))

  -- a total is that of the first elements of each value that lies at a position
  abbrev pub IsTotal : Shape → List ℕ → ℕ → ℕ → ℕ → Type 0
  IsTotal s bytes pos i total = (v : Value) → HeldAt (vector s) (λ _. ⊤) bytes pos v → total ≡ sum_by f (take i (elements_of v)) % 2 ^ 64

  pub no_total : (s : Shape) (bytes : List ℕ) (pos : ℕ) → IsTotal s bytes pos 0 0
  no_total s bytes pos v h = refl

  module _ (s : Shape) (bytes : List ℕ) (pos to len : ℕ) (there : IsVecAt s (λ _. ⊤) bytes pos to len) where
    pub total_more : (i at total n : ℕ) → i < len → at ≡ to + i * size_of s → IsOf f s bytes at n
        → IsTotal s bytes pos i total → IsTotal s bytes pos (i + 1) ((total + n) % 2 ^ 64)
    total_more i at total n less e one before v h =
        let stand : AreElements s (λ _. ⊤) bytes to len v = there.value v h in
        let x = stand.each i less in
        let listed_is : elements_of v ≡ listed stand.elements = ap elements_of stand.is in
        let adds : n ≡ f x.0 = one x.0 (subst (λ a. HeldAt s (λ _. ⊤) bytes a x.0) (sym e) x.2) in
        let first : total ≡ sum_by f (take i (listed stand.elements)) % 2 ^ 64 = before v h ∙ ap (λ l. sum_by f (take i l) % 2 ^ 64) listed_is in
        ap (λ m. (m + n) % 2 ^ 64) first
        ∙ mod-add-mod (sum_by f (take i (listed stand.elements))) (2 ^ 64) n
        ∙ ap (λ m. (sum_by f (take i (listed stand.elements)) + m) % 2 ^ 64) adds
        ∙ ap (λ m. m % 2 ^ 64) (sym (sum_more stand.elements i x.0 x.1))
        ∙ ap (λ k. sum_by f (take k (listed stand.elements)) % 2 ^ 64) (sym (add-one i))
        ∙ ap (λ l. sum_by f (take (i + 1) l) % 2 ^ 64) (sym listed_is)

    pub total_all : (total : ℕ) → IsTotal s bytes pos len total → IsOf (sum_of f) (vector s) bytes pos total
    total_all total before v h =
        let stand : AreElements s (λ _. ⊤) bytes to len v = there.value v h in
        let listed_is : elements_of v ≡ listed stand.elements = ap elements_of stand.is in
        before v h
        ∙ ap (λ l. sum_by f (take len l) % 2 ^ 64) listed_is
        ∙ ap (λ k. sum_by f (take k (listed stand.elements)) % 2 ^ 64) (sym stand.count)
        ∙ ap (λ m. m % 2 ^ 64) (sum_all stand.elements)
        ∙ ap (λ l. sum_by f l % 2 ^ 64) (sym listed_is)

-- ---- a text's length and its last byte

pub last_added : (bytes : List ℕ) (b : ℕ) → slice_get bytes (length bytes - 1) ≡ Some b → (length bytes + b) % 2 ^ 64 ≡ length_and_last bytes
last_added bytes b e = ap (λ o. (length bytes + unwrap_or o 0) % 2 ^ 64) (sym e)

pub no_last : (bytes : List ℕ) → slice_get bytes (length bytes - 1) ≡ None → length bytes ≡ length_and_last bytes
no_last [] e = refl
no_last (x ∷ xs) e =
    let some = slice_get-get_or (x ∷ xs) (length (x ∷ xs) - 1) x (omega arith) in
    absurd (cc)
