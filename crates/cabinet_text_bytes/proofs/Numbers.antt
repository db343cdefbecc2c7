-- Numbers written in decimal, digit by digit from the last.
use Rattle.std.proofs.Common.{◌≡◌, ◌≢◌, ℕ, zero, suc, ◌+◌, ◌-◌, ◌/◌, ◌%◌, ◌^◌, ◌<◌, ◌≤◌, ℤ, pos, negsuc, List, [], ◌∷◌, ◌++◌, length, drop, get_or, Option, Some, None, MatchOption, FitsSigned, w64, unsigned_abs, sym, ap, subst, ◌∙◌, refl, arith, append_assoc, length-append}
use Rattle.std.proofs.lemmas.List.{drop-set}
use Rattle.std.proofs.lemmas.Int.{ints}
use Rattle.std.proofs.lemmas.Fmt.{decimal_step, decimal_digit, decimal_nonempty, decimal_injective, first_decimal, digits_decimal, digits_value-decimal, decimal-digits_value}
use Rattle.std.proofs.lemmas.Str.Parse.{IsNumeralModel, numerals_by_value, tells_digits, digit_at}
use Rattle.std.proofs.lemmas.List.{append_cancel_left}
use Rattle.std.specs.Str.Parse.{AllDigits, digits_value}
use Rattle.std.specs.Fmt.{decimal, signed_decimal}
use Rattle.std.proofs.Math.ListN.{set}
use lib.Signed.{lt_z}
use mathlib.Core.Bool.{true, false}

-- the last digit of the rest goes before those that are written already
pub digit_put : (bytes : List ℕ) (start rest : ℕ) → 10 ≤ rest → rest < 2 ^ 64 → start < length bytes → decimal (rest / 10) ++ drop start (set bytes start (48 + rest % 10)) ≡ decimal rest ++ drop (start + 1) bytes
digit_put bytes start rest more below within =
    ap (λ d. decimal (rest / 10) ++ d) (drop-set bytes start (48 + rest % 10) within)
    ∙ sym (append_assoc (decimal (rest / 10)) ((48 + rest % 10) ∷ []) (drop (start + 1) bytes))
    ∙ ap (λ d. d ++ drop (start + 1) bytes) (sym (decimal_step rest more below))

pub last_digit_put : (bytes : List ℕ) (start rest : ℕ) → rest < 10 → start < length bytes → drop start (set bytes start (48 + rest)) ≡ decimal rest ++ drop (start + 1) bytes
last_digit_put bytes start rest small within =
    drop-set bytes start (48 + rest) within ∙ ap (λ d. d ++ drop (start + 1) bytes) (sym (decimal_digit rest small))

pub length_shorter : (rest : ℕ) → 10 ≤ rest → rest < 2 ^ 64 → length (decimal rest) ≡ length (decimal (rest / 10)) + 1
length_shorter rest more below =
    ap length (decimal_step rest more below) ∙ length-append (decimal (rest / 10)) ((48 + rest % 10) ∷ [])

-- the sign, and the digits of the distance from zero
pub signed_from_zero_on : (z : ℤ) → lt_z z (pos 0) ≡ false → decimal (unsigned_abs z) ≡ signed_decimal z
signed_from_zero_on (pos n) h = refl
signed_from_zero_on (negsuc n) h = cc

signed_below_zero : (z : ℤ) → lt_z z (pos 0) ≡ true → 45 ∷ decimal (unsigned_abs z) ≡ signed_decimal z
signed_below_zero (pos n) h = absurd (omega (arith, ints, h))
signed_below_zero (negsuc n) h = refl

-- the sign goes before the digits
pub sign_put : (bytes : List ℕ) (start : ℕ) (z : ℤ) → 1 ≤ start → start < length bytes → drop start bytes ≡ decimal (unsigned_abs z) → lt_z z (pos 0) ≡ true → drop (start - 1) (set bytes (start - 1) 45) ≡ signed_decimal z
sign_put bytes start z room within digits negative =
    let before : (start - 1) + 1 ≡ start = omega arith in
    drop-set bytes (start - 1) 45 (omega arith) ∙ ap (λ d. 45 ∷ d) (rw before digits) ∙ signed_below_zero z negative

digits_model : IsNumeralModel (AllDigits 10) (digits_value 10)
digits_model = numerals_by_value (AllDigits 10) tells_digits

-- digits are a count in its shortest form where there is no zero before others
pub count_read : (digits : List ℕ) (r : Option ℕ)
    → 0 < length digits
    → (get_or digits 0 0 ≡ 48 → length digits ≡ 1)
    → MatchOption r (AllDigits 10 digits → 2 ^ 64 ≤ digits_value 10 digits) (λ n. (n < 2 ^ 64) × AllDigits 10 digits × (digits_value 10 digits ≡ n))
    → MatchOption r ((n : ℕ) → n < 2 ^ 64 → digits ≢ decimal n) (λ n. digits ≡ decimal n)
count_read digits None some short none = λ n below e.
    let all = subst (AllDigits 10) (sym e) (digits_decimal digits_model n below) in
    let value : digits_value 10 digits ≡ n = ap (digits_value 10) e ∙ digits_value-decimal digits_model n below in
    absurd (omega (arith, none all))
count_read digits (Some n) some short read =
    let small : digits_value 10 digits < 2 ^ 64 = omega (arith, read.0, read.2) in
    sym (decimal-digits_value digits_model digits read.1 some short small) ∙ ap decimal read.2

-- a zero is before no other digit
pub leading_zero : (n : ℕ) → n < 2 ^ 64 → get_or (decimal n) 0 0 ≡ 48 → length (decimal n) ≡ 1
leading_zero zero below e = ap length (decimal_digit 0 (omega arith))
leading_zero (suc n) below e = absurd (omega (arith, first_decimal (suc n) (omega arith) below, e))

-- a count has no sign
pub no_sign : (n : ℕ) (rest : List ℕ) → n < 2 ^ 64 → decimal n ≢ 45 ∷ rest
no_sign n rest below e =
    let digit = digit_at (decimal n) 0 (digits_decimal digits_model n below) (decimal_nonempty n below) in
    let first : get_or (decimal n) 0 0 ≡ 45 = ap (λ l. get_or l 0 0) e in
    absurd (omega (arith, digit, first))

-- the number after a sign is no distance from zero that 64 bits have
pub no_distance : (digits bytes : List ℕ)
    → bytes ≡ 45 ∷ digits
    → ((n : ℕ) → n < 2 ^ 64 → digits ≢ decimal n)
    → (z : ℤ) → FitsSigned w64 z → bytes ≢ signed_decimal z
no_distance digits bytes signed none (pos n) fits e = no_sign n digits (omega (arith, fits.sfits)) (sym e ∙ signed)
no_distance digits bytes signed none (negsuc n) fits e =
    none (suc n) (omega (arith, fits.sfits)) (append_cancel_left (45 ∷ []) digits (decimal (suc n)) (sym signed ∙ e))

-- the number at a distance below zero
pub distance_is : (distance : ℕ) (z : ℤ) → distance < 2 ^ 64 → FitsSigned w64 z → signed_decimal z ≡ 45 ∷ decimal distance
    → (0 < distance) × (distance ≤ 2 ^ 63)
distance_is distance (pos n) below fits e = absurd (no_sign n (decimal distance) (omega (arith, fits.sfits)) e)
distance_is distance (negsuc n) below fits e =
    let same = decimal_injective (suc n) distance (omega (arith, fits.sfits)) below (append_cancel_left (45 ∷ []) _ _ e) in
    (omega (arith, same), omega (arith, same, fits.sfits))

-- a count past the greatest number is no number
pub count_too_great : (n : ℕ) (z : ℤ) → n < 2 ^ 64 → 2 ^ 63 ≤ n → FitsSigned w64 z → decimal n ≢ signed_decimal z
count_too_great n (pos m) below great fits e =
    absurd (omega (arith, decimal_injective n m below (omega (arith, fits.sfits)) e, fits.sfits))
count_too_great n (negsuc m) below great fits e = no_sign n (decimal (suc m)) below e

-- neither after a sign nor a count
pub no_number : (bytes : List ℕ)
    → ((digits : List ℕ) → bytes ≢ 45 ∷ digits)
    → ((n : ℕ) → n < 2 ^ 64 → bytes ≢ decimal n)
    → (z : ℤ) → FitsSigned w64 z → bytes ≢ signed_decimal z
no_number bytes unsigned none (pos n) fits e = none n (omega (arith, fits.sfits)) e
no_number bytes unsigned none (negsuc n) fits e = unsigned (decimal (suc n)) e
