-- Bytes of texts.
use Rattle.std.proofs.Common.{◌≡◌, ◌≢◌, ℕ, ◌/◌, ◌<◌, Bool, true, false, cond, ltb, List, [], ◌∷◌, ◌++◌, length, get_or, refl, subst, arith, ⊎_elim, IsUtf8, zero, suc, ◌&&◌}
use Rattle.std.proofs.lemmas.Bool.{ltb-true}
use lib.Utf8.{scalar, scalars, encode, encodes, scalar_cases}

by_cond : {A : Type 0} (P : A → Type 0) (b : Bool) (x y : A) → (b ≡ true → P x) → (b ≡ false → P y) → P (cond b x y)
by_cond P true x y h k = h refl
by_cond P false x y h k = k refl

abbrev Low : List ℕ → Type 0
Low [] = Unit {0}
Low (x ∷ xs) = (x < 248) × Low xs

low_append : (xs ys : List ℕ) → Low xs → Low ys → Low (xs ++ ys)
low_append [] ys h k = k
low_append (x ∷ xs) ys h k = (h.0, low_append xs ys h.1 k)

low_get : (xs : List ℕ) (k : ℕ) → Low xs → k < length xs → get_or xs k 0 < 248
low_get [] k h l = absurd (omega arith)
low_get (x ∷ xs) zero h l = h.0
low_get (x ∷ xs) (suc k) h l = low_get xs k h.1 (omega arith)

scalar_below : (c : ℕ) → scalar c ≡ true → c < 1114112
scalar_below c e = ⊎_elim (λ h. omega arith) (λ h. h.1) (scalar_cases c e)

low_encode : (c : ℕ) → scalar c ≡ true → Low (encode c)
unfolding encode
low_encode c e =
    let l = scalar_below c e in
    by_cond Low (ltb c 128) _ _ (λ h. let f = ltb-true c 128 h in (omega arith, tt)) (λ _.
    by_cond Low (ltb c 2048) _ _ (λ h. let f = ltb-true c 2048 h in (omega arith, (omega arith, tt))) (λ _.
    by_cond Low (ltb c 65536) _ _ (λ h. let f = ltb-true c 65536 h in (omega arith, (omega arith, (omega arith, tt)))) (λ _.
    (omega arith, (omega arith, (omega arith, (omega arith, tt)))))))

and_left : (x y : Bool) → x && y ≡ true → x ≡ true
and_left true y e = refl
and_left false y e = e

and_right : (x y : Bool) → x && y ≡ true → y ≡ true
and_right true y e = e
and_right false y e = absurd (cc)

low_encodes : (cs : List ℕ) → scalars cs ≡ true → Low (encodes cs)
low_encodes [] e = tt
low_encodes (c ∷ cs) e = low_append (encode c) (encodes cs) (low_encode c (and_left _ _ e)) (low_encodes cs (and_right _ _ e))

-- no byte of a text is ff
pub utf8_byte : (t : List ℕ) → IsUtf8 t → (k : ℕ) → k < length t → get_or t k 0 < 248
utf8_byte t u k l = low_get t k (subst Low u.1.1 (low_encodes u.0 u.1.0)) l

abbrev Starts : List ℕ → Type 0
Starts [] = Unit {0}
Starts (x ∷ xs) = x / 64 ≢ 2

starts_encode : (c : ℕ) (ys : List ℕ) → scalar c ≡ true → Starts (encode c ++ ys)
unfolding encode
starts_encode c ys e =
    let l = scalar_below c e in
    let P : List ℕ → Type 0 = λ xs. Starts (xs ++ ys) in
    by_cond P (ltb c 128) _ _ (λ h. let f = ltb-true c 128 h in (λ q. omega arith)) (λ _.
    by_cond P (ltb c 2048) _ _ (λ h. let f = ltb-true c 2048 h in (λ q. omega arith)) (λ _.
    by_cond P (ltb c 65536) _ _ (λ h. let f = ltb-true c 65536 h in (λ q. omega arith)) (λ _.
    (λ q. omega arith))))

starts_encodes : (cs : List ℕ) → scalars cs ≡ true → Starts (encodes cs)
starts_encodes [] e = tt
starts_encodes (c ∷ cs) e = starts_encode c (encodes cs) (and_left _ _ e)

starts_get : (t : List ℕ) → Starts t → 0 < length t → get_or t 0 0 / 64 ≢ 2
starts_get [] h l = absurd (omega arith)
starts_get (x ∷ xs) h l = h

-- a text does not begin within a character
pub utf8_first : (t : List ℕ) → IsUtf8 t → 0 < length t → get_or t 0 0 / 64 ≢ 2
utf8_first t u l = starts_get t (subst Starts u.1.1 (starts_encodes u.0 u.1.0)) l
