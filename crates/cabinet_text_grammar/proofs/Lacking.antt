-- Bytes that do not occur in spelled numbers, texts and leaves.
use Rattle.std.proofs.Common.{◌≡◌, ◌≢◌, ℕ, suc, ◌<◌, ◌^◌, ℤ, pos, negsuc, Bool, true, not, ◌&&◌, eqb, List, [], ◌∷◌, ◌++◌, length, get_or, sym, ap, ◌∙◌, inl, inr, ◌⊎◌, refl, arith, FitsSigned, w64, take, length-take, get_or-take}
use Rattle.std.specs.Fmt.{signed_decimal, decimal}
use Rattle.std.specs.Str.Parse.{AllDigits, digits_value}
use Rattle.std.proofs.lemmas.Fmt.{digits_decimal}
use Rattle.std.proofs.lemmas.Str.Parse.{not_in_digits, numerals_by_value, tells_digits, IsNumeralModel}
use Rattle.std.proofs.lemmas.Bool.Decides.{eqb_tells}
use Rattle.std.proofs.lemmas.Bool.{false≢true}
use Rattle.cabinet_text_grammar.specs.Spelling.{escaped, escaped_byte}
use Rattle.cabinet_text_grammar.proofs.Escapes.{Form, backslash, newline, space, plain, form_of}

abbrev pub Lacks : ℕ → List ℕ → Type 0
Lacks c [] = Unit {0}
Lacks c (b ∷ bs) = (b ≢ c) × Lacks c bs

pub Lacks-append : (c : ℕ) (xs ys : List ℕ) → Lacks c xs → Lacks c ys → Lacks c (xs ++ ys)
Lacks-append c [] ys p q = q
Lacks-append c (b ∷ bs) ys p q = (p.0, Lacks-append c bs ys p.1 q)

pub Lacks-from_get_or : (c : ℕ) (xs : List ℕ) → ((i : ℕ) → i < length xs → get_or xs i 0 ≢ c) → Lacks c xs
Lacks-from_get_or c [] h = tt
Lacks-from_get_or c (b ∷ bs) h = (h 0 (omega arith), Lacks-from_get_or c bs (λ i l. h (suc i) (omega arith)))

pub Lacks-take : (c : ℕ) (xs : List ℕ) (n : ℕ) → ((k : ℕ) → k < n → get_or xs k 0 ≢ c) → Lacks c (take n xs)
Lacks-take c xs n before =
    Lacks-from_get_or c (take n xs) (λ k l.
    let below : k < n = omega (arith, length-take n xs) in
    rw (get_or-take n xs k 0 below) (before k below))

-- whether a byte is not among some given ones
abbrev lacks : ℕ → List ℕ → Bool
lacks c [] = true
lacks c (b ∷ bs) = not (eqb b c) && lacks c bs

pub Lacks-tested : (c : ℕ) (xs : List ℕ) → lacks c xs ≡ true → Lacks c xs
Lacks-tested c [] h = tt
Lacks-tested c (b ∷ bs) h =
    elim (eqb_tells b c) [
      | inl is ↦ absurd (false≢true (sym (ap (λ e. not e && lacks c bs) is.0) ∙ h))
      | inr differs ↦ (differs.1, Lacks-tested c bs (sym (ap (λ e. not e && lacks c bs) differs.0) ∙ h))
    ]

pub own : IsNumeralModel (AllDigits 10) (digits_value 10)
own = numerals_by_value (AllDigits 10) tells_digits

pub Lacks-decimal : (c n : ℕ) → c < 48 → n < 2 ^ 64 → Lacks c (decimal n)
Lacks-decimal c n low h =
    Lacks-from_get_or c (decimal n) (not_in_digits own (decimal n) c (digits_decimal own n h) (λ p. omega (arith, p)))

pub Lacks-signed : (c : ℕ) (z : ℤ) → c < 45 → FitsSigned w64 z → Lacks c (signed_decimal z)
Lacks-signed c (pos n) low fits = Lacks-decimal c n (omega arith) (omega (arith, fits.sfits))
Lacks-signed c (negsuc n) low fits = (λ e. omega (arith, e), Lacks-decimal c (suc n) (omega arith) (omega (arith, fits.sfits)))

-- a byte that is escaped, and does not occur in an escape
abbrev pub IsBlank : ℕ → Type 0
IsBlank c = (c ≡ 10) ⊎ (c ≡ 32)

Lacks-form : (c b : ℕ) (v : List ℕ) → IsBlank c → Form b v → Lacks c v
Lacks-form c b _ (inl is) (backslash e) = rw is (Lacks-tested 10 (92 ∷ 92 ∷ []) refl)
Lacks-form c b _ (inl is) (newline e) = rw is (Lacks-tested 10 (92 ∷ 110 ∷ []) refl)
Lacks-form c b _ (inl is) (space e) = rw is (Lacks-tested 10 (92 ∷ 115 ∷ []) refl)
Lacks-form c b _ (inl is) (plain p q r) = (λ e. q (e ∙ is), tt)
Lacks-form c b _ (inr is) (backslash e) = rw is (Lacks-tested 32 (92 ∷ 92 ∷ []) refl)
Lacks-form c b _ (inr is) (newline e) = rw is (Lacks-tested 32 (92 ∷ 110 ∷ []) refl)
Lacks-form c b _ (inr is) (space e) = rw is (Lacks-tested 32 (92 ∷ 115 ∷ []) refl)
Lacks-form c b _ (inr is) (plain p q r) = (λ e. r (e ∙ is), tt)

pub Lacks-escaped : (c : ℕ) (t : List ℕ) → IsBlank c → Lacks c (escaped t)
Lacks-escaped c [] blank = tt
Lacks-escaped c (b ∷ bs) blank =
    Lacks-append c (escaped_byte b) (escaped bs) (Lacks-form c b _ blank (form_of b)) (Lacks-escaped c bs blank)
