-- Masks as lists of marks: the lowest and the others, and what a comparison of lanes marks.
use Rattle.std.proofs.Common.{◌≡◌, ℕ, zero, suc, ◌+◌, ◌-◌, ◌*◌, ◌/◌, ◌%◌, ◌^◌, ◌<◌, ◌≤◌, Bool, true, false, cond, not, List, [], ◌∷◌, map, length, eqb, refl, sym, ap, ◌∙◌, arith, bit_and, replicate, get_or, true≢false, eqb-true, eq-eqb, lt-ltb, le-ltb, subst, inl, inr, position, Some, None}
use Rattle.std.proofs.lemmas.Simd.{mask_l-mod, zip2_splat, zip2_splat_left, trailing_mask_l}
use Rattle.std.proofs.lemmas.Bool.{cases_lt}
use Rattle.std.specs.List.{prefix_len}
use lib.Bits.{and_step, and_self}
use lib.Count.{count_trailing_zeros}
use lib.Lanes.{mask_l, zip2, top}
use mathlib.Core.List.{map-id}
use Rattle.archive_hash_probing.specs.Marks.{without_first}
use Rattle.archive_hash_probing.specs.Scanning.{IsMatch}

-- ---- the lowest

pub short : (marks : List Bool) → 0 < mask_l marks → prefix_len not marks < length marks
short [] some = absurd (omega arith)
short (true ∷ marks) some = omega arith
short (false ∷ marks) some = omega (arith, short marks (omega arith))

long : (marks : List Bool) → mask_l marks ≡ 0 → length marks ≤ prefix_len not marks
long [] none = omega arith
long (true ∷ marks) none = absurd (omega arith)
long (false ∷ marks) none = omega (arith, long marks (omega arith))

pub lowest_is : (marks : List Bool) (bits : ℕ) → length marks ≤ 64 → 0 < bits → bits ≡ mask_l marks → Some (count_trailing_zeros 64 bits) ≡ position (λ mark. mark) marks
lowest_is marks bits fits some e =
    let marked : 0 < mask_l marks = let P : ℕ → Type 0 = λ n. 0 < n in subst P e some in
    let same : mask_l (map (λ m. m) marks) ≡ bits = ap mask_l (map-id marks) ∙ sym e in
    let lane : count_trailing_zeros 64 bits ≡ prefix_len not marks = ap (count_trailing_zeros 64) (sym same) ∙ trailing_mask_l (λ m. m) 64 marks fits (omega arith) in
    ap Some lane ∙ sym (ap (λ b. cond b (Some (prefix_len not marks)) None) (lt-ltb (prefix_len not marks) (length marks) (short marks marked)))

pub none_is : (marks : List Bool) → mask_l marks ≡ 0 → position (λ mark. mark) marks ≡ None
none_is marks none = ap (λ b. cond b (Some (prefix_len not marks)) None) (le-ltb (prefix_len not marks) (length marks) (long marks none))

-- ---- the others

removed_some : (marks : List Bool) → 0 < mask_l marks → bit_and (mask_l marks) (mask_l marks - 1) ≡ mask_l (without_first marks)
removed_some [] some = absurd (omega arith)
removed_some (true ∷ marks) some =
    let n = mask_l marks in
    let a : (1 + 2 * n) / 2 ≡ n = omega arith in
    let b : (1 + 2 * n - 1) / 2 ≡ n = omega arith in
    let low : (1 + 2 * n - 1) % 2 ≡ 0 = omega arith in
    and_step (1 + 2 * n) (1 + 2 * n - 1) ∙ omega (arith, (λ i. bit_and (a i) (b i)) ∙ and_self n)
removed_some (false ∷ marks) some =
    let n = mask_l marks in
    let pos : 0 < n = omega arith in
    let a : (0 + 2 * n) / 2 ≡ n = omega arith in
    let b : (0 + 2 * n - 1) / 2 ≡ n - 1 = omega arith in
    and_step (0 + 2 * n) (0 + 2 * n - 1) ∙ omega (arith, (λ i. bit_and (a i) (b i)) ∙ removed_some marks pos)

unchanged : (marks : List Bool) → mask_l marks ≡ 0 → mask_l (without_first marks) ≡ 0
unchanged [] none = none
unchanged (true ∷ marks) none = absurd (omega arith)
unchanged (false ∷ marks) none = omega (arith, unchanged marks (omega arith))

pub removed_is : (marks : List Bool) (bits : ℕ) → bits < 2 ^ 64 → bits ≡ mask_l marks → bit_and bits ((bits + 18446744073709551615) % 18446744073709551616) ≡ mask_l (without_first marks)
removed_is marks bits fits e = elim (cases_lt 0 bits) [
  | inl some ↦
      let less : (bits + 18446744073709551615) % 18446744073709551616 ≡ bits - 1 = omega arith in
      ap (bit_and bits) less ∙ (λ i. bit_and (e i) (e i - 1)) ∙ removed_some marks (let P : ℕ → Type 0 = λ n. 0 < n in subst P e some)
  | inr none ↦
      let zero_bits : bits ≡ 0 = omega arith in
      ap (λ n. bit_and n ((bits + 18446744073709551615) % 18446744073709551616)) zero_bits ∙ sym (unchanged marks (sym e ∙ zero_bits))
]

-- ---- lanes

top_is : (b : Bool) → top 7 (cond b 255 0) ≡ b
top_is true = refl
top_is false = refl

tops : (t : ℕ → Bool) (xs : List ℕ) → map (top 7) (map (λ x. cond (t x) 255 0) xs) ≡ map t xs
tops t [] = refl
tops t (x ∷ xs) = λ i. top_is (t x) i ∷ tops t xs i

whole_mask : (marks : List Bool) → length marks ≡ 16 → mask_l marks % 2 ^ 64 ≡ mask_l marks
whole_mask marks long = let le : length marks ≤ 64 = omega arith in mask_l-mod marks 64 le

length-tested : (t : ℕ → Bool) (xs : List ℕ) → length (map t xs) ≡ length xs
length-tested t [] = refl
length-tested t (x ∷ xs) = ap suc (length-tested t xs)

-- a comparison with a splat on the right, and on the left
pub lanes_right : (t : ℕ → ℕ → Bool) (xs : List ℕ) (y : ℕ) → length xs ≡ 16
    → mask_l (map (top 7) (zip2 (λ a b. cond (t a b) 255 0) xs (replicate 16 y))) % 2 ^ 64 ≡ mask_l (map (λ x. t x y) xs)
lanes_right t xs y long =
    ap (λ ms. mask_l ms % 2 ^ 64) (ap (map (top 7)) (zip2_splat (λ a b. cond (t a b) 255 0) xs 16 y long) ∙ tops (λ x. t x y) xs)
    ∙ whole_mask (map (λ x. t x y) xs) (length-tested (λ x. t x y) xs ∙ long)

pub lanes_left : (t : ℕ → ℕ → Bool) (xs : List ℕ) (y : ℕ) → length xs ≡ 16
    → mask_l (map (top 7) (zip2 (λ a b. cond (t a b) 255 0) (replicate 16 y) xs)) % 2 ^ 64 ≡ mask_l (map (λ x. t y x) xs)
lanes_left t xs y long =
    ap (λ ms. mask_l ms % 2 ^ 64) (ap (map (top 7)) (zip2_splat_left (λ a b. cond (t a b) 255 0) y 16 xs long) ∙ tops (λ x. t y x) xs)
    ∙ whole_mask (map (λ x. t y x) xs) (length-tested (λ x. t y x) xs ∙ long)

-- ---- an exact match

pub exact_match : (tag : ℕ) (cs : List ℕ) → tag < 128 → IsMatch tag cs (map (λ c. eqb c tag) cs)
exact_match tag cs t = record {
  count = length-tested (λ c. eqb c tag) cs;
  all = λ k l e. marked cs k l e;
  full = λ k e. omega (arith, equal cs k e);
  lowest = λ k e first. equal cs k e;
}
  where
    marked : (xs : List ℕ) (k : ℕ) → k < length xs → get_or xs k 0 ≡ tag → get_or (map (λ c. eqb c tag) xs) k false ≡ true
    marked [] k l e = absurd (omega arith)
    marked (x ∷ xs) zero l e = eq-eqb x tag e
    marked (x ∷ xs) (suc k) l e = marked xs k (omega arith) e

    equal : (xs : List ℕ) (k : ℕ) → get_or (map (λ c. eqb c tag) xs) k false ≡ true → get_or xs k 0 ≡ tag
    equal [] k e = absurd (true≢false (sym e))
    equal (x ∷ xs) zero e = eqb-true x tag e
    equal (x ∷ xs) (suc k) e = equal xs k e
