-- Texts in their escaped form: what it begins with, and that no two have the same.
use Rattle.std.proofs.Common.{inl, inr, ◌≡◌, ◌≢◌, ℕ, ◌+◌, ◌<◌, ◌≤◌, List, [], ◌∷◌, ◌++◌, length, sym, ap, ◌∙◌, refl, arith, append_assoc, append-nil, false, eqb}
use Rattle.std.proofs.lemmas.Bool.Decides.{eqb_tells}
use Rattle.std.proofs.lemmas.Bool.{false≢true, eq-eqb}
use Rattle.cabinet_text_grammar.specs.Spelling.{escaped, escaped_byte}

-- how a byte is written
pub data Form (b : ℕ) : List ℕ → Type 0 where
  backslash : b ≡ 92 → Form b (92 ∷ 92 ∷ [])
  newline : b ≡ 10 → Form b (92 ∷ 110 ∷ [])
  space : b ≡ 32 → Form b (92 ∷ 115 ∷ [])
  plain : b ≢ 92 → b ≢ 10 → b ≢ 32 → Form b (b ∷ [])

pub form_of : (b : ℕ) → Form b (escaped_byte b)
form_of b =
    elim (eqb_tells b 92) [
      | inl is ↦ rw is.0 (backslash is.1)
      | inr not_backslash ↦
          rw not_backslash.0 (elim (eqb_tells b 10) [
            | inl is ↦ rw is.0 (newline is.1)
            | inr not_newline ↦
                rw not_newline.0 (elim (eqb_tells b 32) [
                  | inl is ↦ rw is.0 (space is.1)
                  | inr not_space ↦ rw not_space.0 (plain not_backslash.1 not_newline.1 not_space.1)
                ])
          ])
    ]

-- the first byte and what follows it, of two equal lists
pub first_same : {a b : ℕ} {x y : List ℕ} → a ∷ x ≡ b ∷ y → a ≡ b
first_same h = cc

pub rest_same : {a b : ℕ} {x y : List ℕ} → a ∷ x ≡ b ∷ y → x ≡ y
rest_same h = cc

pub first_differs : {a b : ℕ} {x y : List ℕ} → eqb a b ≡ false → a ∷ x ≡ b ∷ y → ⊥
first_differs {a} {b} d h = absurd (false≢true (sym d ∙ eq-eqb a b (first_same h)))

pub same_first : (b d : ℕ) (v w x y : List ℕ) → Form b v → Form d w → v ++ x ≡ w ++ y → (b ≡ d) × (x ≡ y)
same_first b d _ _ x y (backslash e) (backslash f) h = (e ∙ sym f, rest_same (rest_same h))
same_first b d _ _ x y (backslash e) (newline f) h = absurd (first_differs refl (rest_same h))
same_first b d _ _ x y (backslash e) (space f) h = absurd (first_differs refl (rest_same h))
same_first b d _ _ x y (backslash e) (plain p q r) h = absurd (p (sym (first_same h)))
same_first b d _ _ x y (newline e) (backslash f) h = absurd (first_differs refl (rest_same h))
same_first b d _ _ x y (newline e) (newline f) h = (e ∙ sym f, rest_same (rest_same h))
same_first b d _ _ x y (newline e) (space f) h = absurd (first_differs refl (rest_same h))
same_first b d _ _ x y (newline e) (plain p q r) h = absurd (p (sym (first_same h)))
same_first b d _ _ x y (space e) (backslash f) h = absurd (first_differs refl (rest_same h))
same_first b d _ _ x y (space e) (newline f) h = absurd (first_differs refl (rest_same h))
same_first b d _ _ x y (space e) (space f) h = (e ∙ sym f, rest_same (rest_same h))
same_first b d _ _ x y (space e) (plain p q r) h = absurd (p (sym (first_same h)))
same_first b d _ _ x y (plain p q r) (backslash f) h = absurd (p (first_same h))
same_first b d _ _ x y (plain p q r) (newline f) h = absurd (p (first_same h))
same_first b d _ _ x y (plain p q r) (space f) h = absurd (p (first_same h))
same_first b d _ _ x y (plain p q r) (plain p' q' r') h = (first_same h, rest_same h)

-- every byte is written
written : (b : ℕ) (v x : List ℕ) → Form b v → v ++ x ≢ []
written b _ x (backslash e) h = cc
written b _ x (newline e) h = cc
written b _ x (space e) h = cc
written b _ x (plain p q r) h = cc

-- the bytes after an escaped front of an escaped text are an escaped text
pub record After (front tail t : List ℕ) : Type 0 where
  pub text : List ℕ
  pub whole : t ≡ front ++ text
  pub escapes : tail ≡ escaped text

pub after_front : (front tail t : List ℕ) → escaped front ++ tail ≡ escaped t → After front tail t
after_front [] tail t h = record { text = t; whole = refl; escapes = h }
after_front (b ∷ bs) tail [] h = absurd (written b (escaped_byte b) (escaped bs ++ tail) (form_of b) (sym (append_assoc (escaped_byte b) (escaped bs) tail) ∙ h))
after_front (b ∷ bs) tail (d ∷ ds) h =
    let firsts = same_first b d _ _ _ _ (form_of b) (form_of d) (sym (append_assoc (escaped_byte b) (escaped bs) tail) ∙ h) in
    let rest = after_front bs tail ds firsts.1 in
    record { text = rest.text; whole = cc; escapes = rest.escapes }

pub escaped_injective : (s t : List ℕ) → escaped s ≡ escaped t → s ≡ t
escaped_injective [] [] h = refl
escaped_injective [] (d ∷ ds) h = absurd (written d (escaped_byte d) (escaped ds) (form_of d) (sym h))
escaped_injective (b ∷ bs) [] h = absurd (written b (escaped_byte b) (escaped bs) (form_of b) h)
escaped_injective (b ∷ bs) (d ∷ ds) h =
    let firsts = same_first b d _ _ _ _ (form_of b) (form_of d) h in
    let rest = escaped_injective bs ds firsts.1 in
    cc

pub escaped-append : (s t : List ℕ) → escaped (s ++ t) ≡ escaped s ++ escaped t
escaped-append [] t = refl
escaped-append (b ∷ bs) t = ap (λ x. escaped_byte b ++ x) (escaped-append bs t) ∙ sym (append_assoc (escaped_byte b) (escaped bs) (escaped t))

-- one more byte is read
pub one_more : (whole t rest after : List ℕ) (b : ℕ) → whole ≡ escaped t ++ rest → rest ≡ escaped_byte b ++ after → whole ≡ escaped (t ++ b ∷ []) ++ after
one_more whole t rest after b h e =
    let one : escaped (b ∷ []) ≡ escaped_byte b = append-nil (escaped_byte b) in
    let pushed : escaped (t ++ b ∷ []) ≡ escaped t ++ escaped_byte b = escaped-append t (b ∷ []) ∙ ap (λ x. escaped t ++ x) one in
    h ∙ ap (λ x. escaped t ++ x) e ∙ sym (append_assoc (escaped t) (escaped_byte b) after) ∙ ap (λ x. x ++ after) (sym pushed)

-- it takes at least a byte to write one
pub shorter : (b : ℕ) (v rest after : List ℕ) → Form b v → rest ≡ v ++ after → length after + 1 ≤ length rest
shorter b _ rest after (backslash e) h = omega (arith, ap length h)
shorter b _ rest after (newline e) h = omega (arith, ap length h)
shorter b _ rest after (space e) h = omega (arith, ap length h)
shorter b _ rest after (plain p q r) h = omega (arith, ap length h)

-- where no byte is written, no text is
pub none_more : (whole t rest : List ℕ) → whole ≡ escaped t ++ rest → ((b : ℕ) (u : List ℕ) → rest ≢ escaped (b ∷ u)) → 0 < length rest → (u : List ℕ) → whole ≢ escaped u
none_more whole t rest h none more u e = no_text after.text after.escapes where
  after : After t rest u
  after = after_front t rest u (sym h ∙ e)

  no_text : (v : List ℕ) → rest ≡ escaped v → ⊥
  no_text [] f = omega (arith, ap length f, more)
  no_text (b ∷ bs) f = none b bs f

-- the front of an escaped text was read, and `rest` is left
pub record HasRead (whole rest : List ℕ) (len : ℕ) : Type 0 where
  pub text : List ℕ
  pub counted : length text ≡ len
  pub escapes : whole ≡ escaped text ++ rest
  pub room : len + length rest ≤ length whole

-- at the end the whole text was read
pub all_read : (whole rest : List ℕ) (len : ℕ) → HasRead whole rest len → length rest ≡ 0 → (t : List ℕ) × (length t ≡ len) × (whole ≡ escaped t)
all_read whole [] len read h = (read.text, read.counted, read.escapes ∙ append-nil (escaped read.text))
all_read whole (b ∷ bs) len read h = absurd (omega (arith, h))

-- where no byte is written any more, the text was read
pub nothing_left : (whole t rest : List ℕ) → whole ≡ escaped t ++ rest → ((b : ℕ) (u : List ℕ) → rest ≢ escaped (b ∷ u)) → (u : List ℕ) → whole ≡ escaped u → whole ≡ escaped t
nothing_left whole t [] h none u e = h ∙ append-nil (escaped t)
nothing_left whole t (b ∷ rest) h none u e = absurd (none_more whole t (b ∷ rest) h none (omega arith) u e)
