-- A text is UTF-8 exactly where its escaped form is.
use Rattle.std.proofs.Common.{◌≡◌, ℕ, zero, suc, ◌<◌, ◌≤◌, Bool, true, false, ◌&&◌, ltb, List, [], ◌∷◌, ◌++◌, length, get_or, IsUtf8, sym, ap, ◌∙◌, refl, inl, inr, subst, arith, append-nil, length-append}
use Rattle.std.specs.Char.{IsScalar}
use Rattle.std.specs.Prelude.{encode_utf8, encode_utf8_all}
use Rattle.std.proofs.lemmas.Str.{IsUtf8-append, IsUtf8-from_ascii, IsUtf8-encode, IsUtf8-past_char, IsUtf8-nil, inside_one, len_utf8_bounds, length-encode, encode_ascii}
use Rattle.std.proofs.lemmas.Bool.{cases_lt, false≢true, ltb-true}
use lib.Utf8.{scalar, scalars}
use Rattle.cabinet_text_grammar.specs.Spelling.{escaped, escaped_byte}
use Rattle.cabinet_text_grammar.proofs.Escapes.{Form, backslash, newline, space, plain, form_of, escaped-append, after_front, After, first_same}

high_form : (b : ℕ) (v : List ℕ) → 128 ≤ b → Form b v → v ≡ b ∷ []
high_form b _ high (backslash e) = absurd (omega arith)
high_form b _ high (newline e) = absurd (omega arith)
high_form b _ high (space e) = absurd (omega arith)
high_form b _ high (plain p q r) = refl

-- bytes above ASCII represent themselves
escaped_high : (xs : List ℕ) → ((i : ℕ) → i < length xs → 128 ≤ get_or xs i 0) → escaped xs ≡ xs
escaped_high [] h = refl
escaped_high (b ∷ bs) h =
    ap (λ v. v ++ escaped bs) (high_form b (escaped_byte b) (h 0 (omega arith)) (form_of b))
    ∙ ap (λ x. b ∷ x) (escaped_high bs (λ i l. h (suc i) (omega arith)))

-- a character above ASCII represents itself
escaped-encode : (c : ℕ) → 128 ≤ c → escaped (encode_utf8 c) ≡ encode_utf8 c
escaped-encode c high =
    escaped_high (encode_utf8 c) (λ i l.
    elim (cases_lt (get_or (encode_utf8 c) i 0) 128) [
      | inl low ↦ absurd (omega (arith, inside_one c [] (encode_utf8 c) i (sym (append-nil (encode_utf8 c))) l low))
      | inr h ↦ h
    ])

one_ascii : (b : ℕ) → b < 128 → (i : ℕ) → get_or (b ∷ []) i 0 < 128
one_ascii b low zero = low
one_ascii b low (suc i) = omega arith

IsUtf8-one : (b : ℕ) → b < 128 → IsUtf8 (b ∷ [])
IsUtf8-one b low = IsUtf8-from_ascii (b ∷ []) (one_ascii b low)

IsUtf8-two : (a b : ℕ) → a < 128 → b < 128 → IsUtf8 (a ∷ b ∷ [])
IsUtf8-two a b p q = IsUtf8-append (a ∷ []) (b ∷ []) (IsUtf8-one a p) (IsUtf8-one b q)

IsUtf8-form : (b : ℕ) (v : List ℕ) → b < 128 → Form b v → IsUtf8 v
IsUtf8-form b _ low (backslash e) = IsUtf8-two 92 92 (omega arith) (omega arith)
IsUtf8-form b _ low (newline e) = IsUtf8-two 92 110 (omega arith) (omega arith)
IsUtf8-form b _ low (space e) = IsUtf8-two 92 115 (omega arith) (omega arith)
IsUtf8-form b _ low (plain p q r) = IsUtf8-one b low

IsUtf8-escaped_char : (c : ℕ) → IsScalar c → IsUtf8 (escaped (encode_utf8 c))
IsUtf8-escaped_char c scalar =
    elim (cases_lt c 128) [
      | inl low ↦ subst (λ x. IsUtf8 (escaped x)) (sym (encode_ascii c low)) (subst IsUtf8 (sym (append-nil (escaped_byte c))) (IsUtf8-form c (escaped_byte c) low (form_of c)))
      | inr high ↦ subst IsUtf8 (sym (escaped-encode c high)) (IsUtf8-encode c scalar)
    ]

first_true : (s t : Bool) → (s && t) ≡ true → s ≡ true
first_true true t h = refl
first_true false t h = h

second_true : (s t : Bool) → (s && t) ≡ true → t ≡ true
second_true true t h = h
second_true false t h = absurd (false≢true h)

IsUtf8-escaped_all : (cs : List ℕ) → scalars cs ≡ true → IsUtf8 (escaped (encode_utf8_all cs))
IsUtf8-escaped_all [] h = IsUtf8-nil
IsUtf8-escaped_all (c ∷ cs) h =
    subst IsUtf8 (sym (escaped-append (encode_utf8 c) (encode_utf8_all cs)))
    (IsUtf8-append (escaped (encode_utf8 c)) (escaped (encode_utf8_all cs)) (IsUtf8-escaped_char c (first_true (scalar c) (scalars cs) h)) (IsUtf8-escaped_all cs (second_true (scalar c) (scalars cs) h)))

pub IsUtf8-escaped : (t : List ℕ) → IsUtf8 t → IsUtf8 (escaped t)
IsUtf8-escaped t (cs, (s, e)) = subst (λ x. IsUtf8 (escaped x)) e (IsUtf8-escaped_all cs s)

-- an ASCII byte may be cut off
pub IsUtf8-past_ascii : (a : ℕ) (rest : List ℕ) → a < 128 → IsUtf8 (a ∷ rest) → IsUtf8 rest
IsUtf8-past_ascii a rest low h = IsUtf8-past_char (a ∷ rest) rest a h (ap (λ x. x ++ rest) (sym (encode_ascii a low)))

past_form : (b : ℕ) (v rest : List ℕ) → b < 128 → Form b v → IsUtf8 (v ++ rest) → IsUtf8 rest
past_form b _ rest low (backslash e) h = IsUtf8-past_ascii 92 rest (omega arith) (IsUtf8-past_ascii 92 _ (omega arith) h)
past_form b _ rest low (newline e) h = IsUtf8-past_ascii 110 rest (omega arith) (IsUtf8-past_ascii 92 _ (omega arith) h)
past_form b _ rest low (space e) h = IsUtf8-past_ascii 115 rest (omega arith) (IsUtf8-past_ascii 92 _ (omega arith) h)
past_form b _ rest low (plain p q r) h = IsUtf8-past_ascii b rest low h

-- a text whose escaped form begins with a character above ASCII begins with it
high_front : (c : ℕ) (rest t : List ℕ) → 128 ≤ c → encode_utf8 c ++ rest ≡ escaped t → After (encode_utf8 c) rest t
high_front c rest t high h = after_front (encode_utf8 c) rest t (ap (λ x. x ++ rest) (escaped-encode c high) ∙ h)

above_ascii : (b c : ℕ) (bs rest : List ℕ) → 128 ≤ b → b ∷ bs ≡ encode_utf8 c ++ rest → 128 ≤ c
above_ascii b c bs rest high h =
    elim (cases_lt c 128) [
      | inl low ↦ absurd (omega (arith, first_same (h ∙ ap (λ x. x ++ rest) (encode_ascii c low))))
      | inr above ↦ above
    ]

length_after : (c n : ℕ) (t u : List ℕ) → t ≡ encode_utf8 c ++ u → length t ≤ suc n → length u ≤ n
length_after c n t u h most =
    let bounds = len_utf8_bounds c in
    omega (arith, ap length h, length-append (encode_utf8 c) u, length-encode c)

high_escaped : (b : ℕ) (bs : List ℕ) → 128 ≤ b → escaped (b ∷ bs) ≡ b ∷ escaped bs
high_escaped b bs high = ap (λ v. v ++ escaped bs) (high_form b (escaped_byte b) high (form_of b))

unescaped_high : (n b : ℕ) (bs cs : List ℕ) → ((u : List ℕ) → length u ≤ n → IsUtf8 (escaped u) → IsUtf8 u) → length (b ∷ bs) ≤ suc n → 128 ≤ b → scalars cs ≡ true → encode_utf8_all cs ≡ escaped (b ∷ bs) → IsUtf8 (b ∷ bs)
unescaped_high n b bs [] shorter most high s e = absurd (omega (arith, ap length (e ∙ high_escaped b bs high)))
unescaped_high n b bs (c ∷ cs) shorter most high s e =
    let above = above_ascii b c (escaped bs) (encode_utf8_all cs) high (sym (high_escaped b bs high) ∙ sym e) in
    let after = high_front c (encode_utf8_all cs) (b ∷ bs) above e in
    let rest = shorter after.text (length_after c n (b ∷ bs) after.text after.whole most) (cs, (second_true (scalar c) (scalars cs) s, after.escapes)) in
    subst IsUtf8 (sym after.whole) (IsUtf8-append (encode_utf8 c) after.text (IsUtf8-encode c (first_true (scalar c) (scalars cs) s)) rest)

unescaped_within : (n : ℕ) (t : List ℕ) → length t ≤ n → IsUtf8 (escaped t) → IsUtf8 t
unescaped_within n [] most h = IsUtf8-nil
unescaped_within zero (b ∷ bs) most h = absurd (omega (arith, most))
unescaped_within (suc n) (b ∷ bs) most h =
    elim (cases_lt b 128) [
      | inl low ↦ IsUtf8-append (b ∷ []) bs (IsUtf8-one b low) (unescaped_within n bs (omega (arith, most)) (past_form b (escaped_byte b) (escaped bs) low (form_of b) h))
      | inr high ↦ unescaped_high n b bs h.0 (unescaped_within n) most high h.1.0 h.1.1
    ]

pub IsUtf8-unescaped : (t : List ℕ) → IsUtf8 (escaped t) → IsUtf8 t
IsUtf8-unescaped t h = unescaped_within (length t) t (omega arith) h

-- a word of ASCII bytes
abbrev pub is_ascii_word : List ℕ → Bool
is_ascii_word [] = true
is_ascii_word (b ∷ bs) = ltb b 128 && is_ascii_word bs

pub IsUtf8-word : (word : List ℕ) → is_ascii_word word ≡ true → IsUtf8 word
IsUtf8-word [] h = IsUtf8-nil
IsUtf8-word (b ∷ bs) h =
    IsUtf8-append (b ∷ []) bs (IsUtf8-one b (ltb-true b 128 (first_true (ltb b 128) (is_ascii_word bs) h))) (IsUtf8-word bs (second_true (ltb b 128) (is_ascii_word bs) h))

-- such a word may be cut off
pub IsUtf8-past_word : (word rest : List ℕ) → is_ascii_word word ≡ true → IsUtf8 (word ++ rest) → IsUtf8 rest
IsUtf8-past_word [] rest h utf8 = utf8
IsUtf8-past_word (b ∷ bs) rest h utf8 =
    IsUtf8-past_word bs rest (second_true (ltb b 128) (is_ascii_word bs) h) (IsUtf8-past_ascii b (bs ++ rest) (ltb-true b 128 (first_true (ltb b 128) (is_ascii_word bs) h)) utf8)
