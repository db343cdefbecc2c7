-- Words as the numbers of their lanes, and what the subtraction marks.
use Rattle.std.proofs.Common.{◌≡◌, ℕ, zero, suc, ◌+◌, ◌-◌, ◌*◌, ◌/◌, ◌%◌, ◌^◌, ◌<◌, ◌≤◌, Bool, true, false, cond, List, [], ◌∷◌, map, length, eqb, leb, refl, sym, ap, subst, ◌∙◌, arith, inl, inr, bit_and, bit_xor, replicate, get_or, true≢false, eqb-true, leb-true, leb-false, le-leb, Fits, w8, take, drop, length-take}
use Rattle.std.proofs.lemmas.Bool.{cases_Bool, cases_lt}
use Rattle.std.proofs.lemmas.Simd.{length-zip2, length-replicate, get_or-chunk}
use Rattle.std.proofs.lemmas.List.{get_or_past}
use Rattle.std.proofs.lemmas.Nat.{and_le_l, from_le_bytes-to_le_bytes_8}
use Rattle.std.specs.Int.{w64, to_le_bytes, from_le_bytes}
use lib.Arith.{digits_div, digits_mod, mod-mul}
use lib.Bits.{and_block, xor_block, xor_assoc, xor_self, xor_zero_r, xor_zero_l, xor_lt}
use lib.Lanes.{number_l, mask_l, zip2}
use native.Mathlib.Nat.{pow-suc}
use Rattle.archive_hash_probing.specs.Words.{AreBytes, marks_from}
use Rattle.archive_shape_canonical.specs.Reach.{is_empty}
use Rattle.archive_hash_probing.specs.Scanning.{IsMatch, is_full}
use Rattle.archive_hash_probing.proofs.Computed.{below, at_marks}

turned : (x n : ℕ) → x + 256 * n ≡ n * 2 ^ 8 + x
turned x n = omega arith

-- ---- by lanes

pub xor_lanes : (xs : List ℕ) (t : ℕ) → AreBytes xs → t < 256 → bit_xor (number_l 256 xs) (number_l 256 (replicate (length xs) t)) ≡ number_l 256 (map (λ c. bit_xor c t) xs)
xor_lanes [] t h l = refl
xor_lanes (x ∷ xs) t h l =
    (λ i. bit_xor (turned x (number_l 256 xs) i) (turned t (number_l 256 (replicate (length xs) t)) i))
    ∙ xor_block 8 _ _ x t h.0 l
    ∙ ap (λ n. n * 2 ^ 8 + bit_xor x t) (xor_lanes xs t h.1 l)
    ∙ sym (turned (bit_xor x t) _)

pub xor_AreBytes : (xs : List ℕ) (t : ℕ) → AreBytes xs → t < 256 → AreBytes (map (λ c. bit_xor c t) xs)
xor_AreBytes [] t h l = tt
xor_AreBytes (x ∷ xs) t h l = (xor_lt 8 x t h.0 l, xor_AreBytes xs t h.1 l)

pub and_lanes : (xs ys : List ℕ) → AreBytes xs → AreBytes ys → length xs ≡ length ys → bit_and (number_l 256 xs) (number_l 256 ys) ≡ number_l 256 (zip2 bit_and xs ys)
and_lanes [] [] h k e = refl
and_lanes [] (y ∷ ys) h k e = absurd (omega arith)
and_lanes (x ∷ xs) [] h k e = absurd (omega arith)
and_lanes (x ∷ xs) (y ∷ ys) h k e =
    (λ i. bit_and (turned x (number_l 256 xs) i) (turned y (number_l 256 ys) i))
    ∙ and_block 8 _ _ x y h.0 k.0
    ∙ ap (λ n. n * 2 ^ 8 + bit_and x y) (and_lanes xs ys h.1 k.1 (omega arith))
    ∙ sym (turned (bit_and x y) _)

-- each lane of the difference, with what it borrowed
abbrev pub less_one : List ℕ → ℕ → List ℕ
less_one [] carry = []
less_one (x ∷ xs) carry = (x + 255 - carry) % 256 ∷ less_one xs (cond (leb x carry) 1 0)

abbrev pub ones : ℕ → ℕ
ones n = number_l 256 (replicate n 1)

ones_below : (n : ℕ) → ones n < 256 ^ n
ones_below zero = omega arith
ones_below (suc n) = omega (arith, ones_below n, pow-suc 256 n)

power_pos : (n : ℕ) → 0 < 256 ^ n
power_pos zero = omega arith
power_pos (suc n) = omega (arith, power_pos n, pow-suc 256 n)

-- a number of two digits, the upper one to any base
two_digits : (t q r p m : ℕ) → 0 < p → r < 256 → t ≡ q * 256 + r → m ≡ p * 256 → t % m ≡ q % p * 256 + r
two_digits t q r p m P R e f =
    let base : 0 < 256 = omega arith in
    (λ i. e i % f i) ∙ mod-mul (q * 256 + r) P base ∙ (λ i. (digits_div q R i % p) * 256 + digits_mod q R i)

borrows : (x X O P Q carry R : ℕ) → x < 256 → carry ≤ 1 → x ≤ carry → O < P → Q ≡ P * 256 → (X + P - (O + 1)) % P ≡ R
    → (x + 256 * X + Q - (1 + 256 * O + carry)) % Q ≡ (x + 255 - carry) % 256 + 256 * R
borrows x X O P Q carry R byte c low o q rest =
    let small : x + 255 - carry < 256 = omega arith in
    let e : x + 256 * X + Q - (1 + 256 * O + carry) ≡ (X + P - (O + 1)) * 256 + (x + 255 - carry) = omega arith in
    two_digits _ (X + P - (O + 1)) (x + 255 - carry) P Q (omega arith) small e q ∙ ap (λ r. r * 256 + (x + 255 - carry)) rest ∙ omega arith

keeps : (x X O P Q carry R : ℕ) → x < 256 → carry ≤ 1 → carry < x → O < P → Q ≡ P * 256 → (X + P - (O + 0)) % P ≡ R
    → (x + 256 * X + Q - (1 + 256 * O + carry)) % Q ≡ (x + 255 - carry) % 256 + 256 * R
keeps x X O P Q carry R byte c high o q rest =
    let small : x - 1 - carry < 256 = omega arith in
    let e : x + 256 * X + Q - (1 + 256 * O + carry) ≡ (X + P - (O + 0)) * 256 + (x - 1 - carry) = omega arith in
    two_digits _ (X + P - (O + 0)) (x - 1 - carry) P Q (omega arith) small e q ∙ ap (λ r. r * 256 + (x - 1 - carry)) rest ∙ omega arith

-- the word less one in every lane, and less what is carried in
pub sub_lanes : (xs : List ℕ) (carry : ℕ) → AreBytes xs → carry ≤ 1
    → (number_l 256 xs + 256 ^ length xs - (ones (length xs) + carry)) % 256 ^ length xs ≡ number_l 256 (less_one xs carry)
sub_lanes [] carry h c = omega arith
sub_lanes (x ∷ xs) carry h c =
    elim (cases_Bool (leb x carry)) [
      | inl e ↦
          borrows x (number_l 256 xs) (ones (length xs)) (256 ^ length xs) _ carry _ h.0 c (leb-true x carry e) (ones_below (length xs)) (pow-suc 256 (length xs)) (sub_lanes xs 1 h.1 (omega arith))
          ∙ ap (λ b. (x + 255 - carry) % 256 + 256 * number_l 256 (less_one xs (cond b 1 0))) (sym e)
      | inr e ↦
          keeps x (number_l 256 xs) (ones (length xs)) (256 ^ length xs) _ carry _ h.0 c (leb-false x carry e) (ones_below (length xs)) (pow-suc 256 (length xs)) (sub_lanes xs 0 h.1 (omega arith))
          ∙ ap (λ b. (x + 255 - carry) % 256 + 256 * number_l 256 (less_one xs (cond b 1 0))) (sym e)
    ]

-- ---- the marks

pub less_one_Bytes : (xs : List ℕ) (carry : ℕ) → AreBytes (less_one xs carry)
less_one_Bytes [] carry = tt
less_one_Bytes (x ∷ xs) carry = (omega arith, less_one_Bytes xs _)

pub not_Bytes : (xs : List ℕ) → AreBytes xs → AreBytes (map (λ x. 255 - x) xs)
not_Bytes [] h = tt
not_Bytes (x ∷ xs) h = (omega arith, not_Bytes xs h.1)

pub length-less_one : (xs : List ℕ) (carry : ℕ) → length (less_one xs carry) ≡ length xs
length-less_one [] carry = refl
length-less_one (x ∷ xs) carry = ap suc (length-less_one xs _)

-- the word with every bit turned
pub not_lanes : (xs : List ℕ) → AreBytes xs → 256 ^ length xs - 1 - number_l 256 xs ≡ number_l 256 (map (λ x. 255 - x) xs)
not_lanes [] h = refl
not_lanes (x ∷ xs) h = omega (arith, not_lanes xs h.1, h.0, pow-suc 256 (length xs), number_below xs h.1, power_pos (length xs))
  where
    number_below : (ys : List ℕ) → AreBytes ys → number_l 256 ys < 256 ^ length ys
    number_below [] k = omega arith
    number_below (y ∷ ys) k = omega (arith, number_below ys k.1, k.0, pow-suc 256 (length ys))

abbrev pub mark_byte : ℕ → ℕ → ℕ
mark_byte x carry = bit_and (bit_and ((x + 255 - carry) % 256) (255 - x)) 128

mark_byte_is : (x carry : ℕ) → x < 256 → carry ≤ 1 → mark_byte x carry ≡ cond (leb x carry) 128 0
mark_byte_is x zero h c = eqb-true _ _ (below (λ y. eqb (mark_byte y 0) (cond (leb y 0) 128 0)) 256 refl x h)
mark_byte_is x (suc zero) h c = eqb-true _ _ (below (λ y. eqb (mark_byte y 1) (cond (leb y 1) 128 0)) 256 refl x h)
mark_byte_is x (suc (suc n)) h c = absurd (omega arith)

carry_le : (b : Bool) → cond b 1 0 ≤ 1
carry_le true = omega arith
carry_le false = omega arith

high_bits : (n : ℕ) → List ℕ
high_bits n = replicate n 128

pub marks_lanes : (xs : List ℕ) (carry : ℕ) → AreBytes xs → carry ≤ 1
    → zip2 bit_and (zip2 bit_and (less_one xs carry) (map (λ x. 255 - x) xs)) (replicate (length xs) 128) ≡ map (λ m. cond m 128 0) (marks_from xs carry)
marks_lanes [] carry h c = refl
marks_lanes (x ∷ xs) carry h c = λ i. mark_byte_is x carry h.0 c i ∷ marks_lanes xs (cond (leb x carry) 1 0) h.1 (carry_le (leb x carry)) i

-- what the marks say of the lanes
pub length-marks_from : (xs : List ℕ) (carry : ℕ) → length (marks_from xs carry) ≡ length xs
length-marks_from [] carry = refl
length-marks_from (x ∷ xs) carry = ap suc (length-marks_from xs _)

marks_zero : (xs : List ℕ) (carry k : ℕ) → k < length xs → get_or xs k 0 ≡ 0 → get_or (marks_from xs carry) k false ≡ true
marks_zero [] carry k l e = absurd (omega arith)
marks_zero (x ∷ xs) carry zero l e = le-leb x carry (omega arith)
marks_zero (x ∷ xs) carry (suc k) l e = marks_zero xs _ k (omega arith) e

marks_small : (xs : List ℕ) (carry k : ℕ) → carry ≤ 1 → get_or (marks_from xs carry) k false ≡ true → get_or xs k 0 ≤ 1
marks_small [] carry k c e = omega arith
marks_small (x ∷ xs) carry zero c e = omega (arith, leb-true x carry e)
marks_small (x ∷ xs) carry (suc k) c e = marks_small xs _ k (carry_le (leb x carry)) e

marks_lowest : (xs : List ℕ) (k : ℕ) → get_or (marks_from xs 0) k false ≡ true → ((j : ℕ) → j < k → get_or (marks_from xs 0) j false ≡ false) → get_or xs k 0 ≡ 0
marks_lowest [] k e first = refl
marks_lowest (x ∷ xs) zero e first = omega (arith, leb-true x 0 e)
marks_lowest (x ∷ xs) (suc k) e first =
    let none : leb x 0 ≡ false = first 0 (omega arith) in
    let same : marks_from xs (cond (leb x 0) 1 0) ≡ marks_from xs 0 = ap (λ b. marks_from xs (cond b 1 0)) none in
    marks_lowest xs k (sym (ap (λ ms. get_or ms k false) same) ∙ e) (λ j l. sym (ap (λ ms. get_or ms j false) same) ∙ first (suc j) (omega arith))

-- ---- the match

xor_back : (c t : ℕ) → bit_xor (bit_xor c t) t ≡ c
xor_back c t = xor_assoc c t t ∙ ap (bit_xor c) (xor_self t) ∙ xor_zero_r c

same_from_xor : (c t : ℕ) → bit_xor c t ≡ 0 → c ≡ t
same_from_xor c t e = sym (xor_back c t) ∙ ap (λ x. bit_xor x t) e ∙ xor_zero_l t

full_from_xor : (c t : ℕ) → bit_xor c t ≤ 1 → t < 128 → c < 128
full_from_xor c t h l = let P : ℕ → Type 0 = λ x. x < 128 in subst P (xor_back c t) (xor_lt 7 (bit_xor c t) t (omega arith) l)

xor_at : (cs : List ℕ) (t k : ℕ) → k < length cs → get_or (map (λ c. bit_xor c t) cs) k 0 ≡ bit_xor (get_or cs k 0) t
xor_at [] t k l = absurd (omega arith)
xor_at (c ∷ cs) t zero l = refl
xor_at (c ∷ cs) t (suc k) l = xor_at cs t k (omega arith)

length-xors : (cs : List ℕ) (t : ℕ) → length (map (λ c. bit_xor c t) cs) ≡ length cs
length-xors [] t = refl
length-xors (c ∷ cs) t = ap suc (length-xors cs t)

marked_within : (xs : List ℕ) (carry k : ℕ) → get_or (marks_from xs carry) k false ≡ true → k < length xs
marked_within [] carry k e = absurd (true≢false (sym e))
marked_within (x ∷ xs) carry zero e = omega arith
marked_within (x ∷ xs) carry (suc k) e = omega (arith, marked_within xs _ k e)

pub words_match : (cs : List ℕ) (tag : ℕ) → tag < 128 → IsMatch tag cs (marks_from (map (λ c. bit_xor c tag) cs) 0)
words_match cs tag t =
    let xs : List ℕ = map (λ c. bit_xor c tag) cs in
    let long : length xs ≡ length cs = length-xors cs tag in
    record {
      count = length-marks_from xs 0 ∙ long;
      all = λ k l e. marks_zero xs 0 k (omega arith) (xor_at cs tag k l ∙ ap (λ c. bit_xor c tag) e ∙ xor_self tag);
      full = λ k e.
          let in' : k < length cs = omega (arith, marked_within xs 0 k e) in
          full_from_xor (get_or cs k 0) tag (omega (arith, marks_small xs 0 k (omega arith) e, xor_at cs tag k in')) t;
      lowest = λ k e first.
          let in' : k < length cs = omega (arith, marked_within xs 0 k e) in
          same_from_xor (get_or cs k 0) tag (sym (xor_at cs tag k in') ∙ marks_lowest xs k e first);
    }

-- ---- eight lanes

abbrev pub high : List Bool → List ℕ
high ms = map (λ m. cond m 128 0) ms

pub marked_is : (xs : List ℕ) (word : ℕ) → length xs ≡ 8 → AreBytes xs → word ≡ number_l 256 xs
    → bit_and (bit_and ((word + 18374403900871474943) % 2 ^ 64) (2 ^ 64 - 1 - word)) 0x8080808080808080 ≡ number_l 256 (high (marks_from xs 0))
marked_is xs word long h e =
    let moved : word + 18374403900871474943 ≡ word + 2 ^ 64 - (0x0101010101010101 + 0) = omega arith in
    let less : (word + 18374403900871474943) % 2 ^ 64 ≡ number_l 256 (less_one xs 0) =
    ap (λ n. n % 2 ^ 64) moved
    ∙ (λ i. (e i + 256 ^ sym long i - (ones (sym long i) + 0)) % 256 ^ sym long i) ∙ sub_lanes xs 0 h (omega arith) in
    let turned_word : 2 ^ 64 - 1 - word ≡ number_l 256 (map (λ x. 255 - x) xs) =
    (λ i. 256 ^ sym long i - 1 - e i) ∙ not_lanes xs h in
    let none : 0 ≤ 1 = omega arith in
    let top : 0x8080808080808080 ≡ number_l 256 (replicate (length xs) 128) = ap (λ n. number_l 256 (replicate n 128)) (sym long) in
    let ls = less_one_Bytes xs 0 in
    let ns = not_Bytes xs h in
    let even : length (less_one xs 0) ≡ length (map (λ x. 255 - x) xs) = length-less_one xs 0 ∙ sym (length-turned xs) in
    let both : AreBytes (zip2 bit_and (less_one xs 0) (map (λ x. 255 - x) xs)) = and_AreBytes _ _ ls ns in
    let wide : length (zip2 bit_and (less_one xs 0) (map (λ x. 255 - x) xs)) ≡ length (replicate (length xs) 128) =
    length-zip2 bit_and (less_one xs 0) (map (λ x. 255 - x) xs) even ∙ length-less_one xs 0 ∙ sym (length-replicate (length xs) 128) in
    (λ i. bit_and (bit_and (less i) (turned_word i)) (top i))
    ∙ ap (λ n. bit_and n (number_l 256 (replicate (length xs) 128))) (and_lanes (less_one xs 0) (map (λ x. 255 - x) xs) ls ns even)
    ∙ and_lanes _ (replicate (length xs) 128) both (high_AreBytes (length xs)) wide
    ∙ ap (number_l 256) (marks_lanes xs 0 h none)
  where
    length-turned : (ys : List ℕ) → length (map (λ x. 255 - x) ys) ≡ length ys
    length-turned [] = refl
    length-turned (y ∷ ys) = ap suc (length-turned ys)

    and_AreBytes : (ys zs : List ℕ) → AreBytes ys → AreBytes zs → AreBytes (zip2 bit_and ys zs)
    and_AreBytes [] zs k l = tt
    and_AreBytes (y ∷ ys) [] k l = tt
    and_AreBytes (y ∷ ys) (z ∷ zs) k l = (omega (arith, and_le_l y z, k.0), and_AreBytes ys zs k.1 l.1)

    high_AreBytes : (n : ℕ) → AreBytes (replicate n 128)
    high_AreBytes zero = tt
    high_AreBytes (suc n) = (omega arith, high_AreBytes n)

-- the multiplication puts the marks side by side
pub gathered_is : (marks : List Bool) (word : ℕ) → length marks ≡ 8 → word ≡ number_l 256 (high marks) → word / 2 ^ 7 * 0x0102040810204080 % 2 ^ 64 / 2 ^ 56 ≡ mask_l marks
gathered_is marks word long e =
    ap (λ w. w / 2 ^ 7 * 0x0102040810204080 % 2 ^ 64 / 2 ^ 56) e
    ∙ eqb-true _ _ (at_marks 8 (λ ms. eqb (number_l 256 (high ms) / 2 ^ 7 * 0x0102040810204080 % 2 ^ 64 / 2 ^ 56) (mask_l ms)) refl marks long)

-- ---- a word and its eight bytes

pub number_is : (bs : List ℕ) → length bs ≡ 8 → number_l 256 bs ≡ from_le_bytes w64 bs
number_is [] e = absurd (omega arith)
number_is (a ∷ []) e = absurd (omega arith)
number_is (a ∷ b ∷ []) e = absurd (omega arith)
number_is (a ∷ b ∷ c ∷ []) e = absurd (omega arith)
number_is (a ∷ b ∷ c ∷ d ∷ []) e = absurd (omega arith)
number_is (a ∷ b ∷ c ∷ d ∷ f ∷ []) e = absurd (omega arith)
number_is (a ∷ b ∷ c ∷ d ∷ f ∷ g ∷ []) e = absurd (omega arith)
number_is (a ∷ b ∷ c ∷ d ∷ f ∷ g ∷ h ∷ []) e = absurd (omega arith)
number_is (a ∷ b ∷ c ∷ d ∷ f ∷ g ∷ h ∷ i ∷ []) e = omega arith
number_is (a ∷ b ∷ c ∷ d ∷ f ∷ g ∷ h ∷ i ∷ j ∷ rest) e = absurd (omega arith)

pub word_is : (n : ℕ) → n < 2 ^ 64 → n ≡ number_l 256 (to_le_bytes w64 n)
word_is n h = sym (number_is (to_le_bytes w64 n) refl ∙ from_le_bytes-to_le_bytes_8 n h)

pub word_AreBytes : (n : ℕ) → AreBytes (to_le_bytes w64 n)
word_AreBytes n = (byte n, (byte (n / 256), (byte (n / 65536), (byte (n / 16777216), (byte (n / 4294967296), (byte (n / 1099511627776), (byte (n / 281474976710656), (byte (n / 72057594037927936), tt))))))))
  where
    byte : (k : ℕ) → k % 256 < 256
    byte k = omega arith

empty_byte : (x : ℕ) → x < 256 → bit_and x 128 ≡ cond (is_empty x) 128 0
empty_byte x h = eqb-true _ _ (below (λ y. eqb (bit_and y 128) (cond (leb 128 y) 128 0)) 256 refl x h)

full_byte : (x : ℕ) → x < 256 → bit_and (255 - x) 128 ≡ cond (is_full x) 128 0
full_byte x h = eqb-true _ _ (below (λ y. eqb (bit_and (255 - y) 128) (cond (leb (suc y) 128) 128 0)) 256 refl x h)

empty_lanes : (xs : List ℕ) → AreBytes xs → zip2 bit_and xs (replicate (length xs) 128) ≡ high (map is_empty xs)
empty_lanes [] h = refl
empty_lanes (x ∷ xs) h = λ i. empty_byte x h.0 i ∷ empty_lanes xs h.1 i

full_lanes : (xs : List ℕ) → AreBytes xs → zip2 bit_and (map (λ x. 255 - x) xs) (replicate (length xs) 128) ≡ high (map is_full xs)
full_lanes [] h = refl
full_lanes (x ∷ xs) h = λ i. full_byte x h.0 i ∷ full_lanes xs h.1 i

eight_high : AreBytes (replicate 8 128)
eight_high = let b : 128 < 256 = omega arith in (b, (b, (b, (b, (b, (b, (b, (b, tt))))))))

pub empties_are : (n : ℕ) → n < 2 ^ 64 → bit_and n 0x8080808080808080 ≡ number_l 256 (high (map is_empty (to_le_bytes w64 n)))
empties_are n h =
    ap (λ m. bit_and m 0x8080808080808080) (word_is n h)
    ∙ and_lanes (to_le_bytes w64 n) (replicate 8 128) (word_AreBytes n) eight_high refl
    ∙ ap (number_l 256) (empty_lanes (to_le_bytes w64 n) (word_AreBytes n))

pub fulls_are : (n : ℕ) → n < 2 ^ 64 → bit_and (2 ^ 64 - 1 - n) 0x8080808080808080 ≡ number_l 256 (high (map is_full (to_le_bytes w64 n)))
fulls_are n h =
    ap (λ m. bit_and m 0x8080808080808080) (ap (λ m. 2 ^ 64 - 1 - m) (word_is n h) ∙ not_lanes (to_le_bytes w64 n) (word_AreBytes n))
    ∙ and_lanes (map (λ x. 255 - x) (to_le_bytes w64 n)) (replicate 8 128) (not_Bytes (to_le_bytes w64 n) (word_AreBytes n)) eight_high refl
    ∙ ap (number_l 256) (full_lanes (to_le_bytes w64 n) (word_AreBytes n))

pub taken_fit : (bs : List ℕ) (at : ℕ) → ((i : ℕ) → Fits w8 (get_or bs i 0)) → (i : ℕ) → get_or (take 8 (drop at bs)) i 0 < 256
taken_fit bs at fit i = elim (cases_lt i 8) [
  | inl l ↦ let e = get_or-chunk at 8 bs i 0 l in let f = fit (at + i) in omega (arith, e, f.fits)
  | inr g ↦ omega (arith, get_or_past (take 8 (drop at bs)) i 0 (omega (arith, length-take 8 (drop at bs))))
]
