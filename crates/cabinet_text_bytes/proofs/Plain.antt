-- Runs of bytes that represent themselves, in escaped texts.
use Rattle.std.proofs.Common.{◌≡◌, ◌≢◌, ℕ, zero, suc, ◌<◌, List, [], ◌∷◌, ◌++◌, length, get_or, take, sym, ap, ◌∙◌, refl, inl, inr, arith, append_assoc, append-nil, length-append, true, not}
use Rattle.std.specs.Prelude.{◌==◌, nat_lt}
use Rattle.std.specs.List.{list_all}
use Rattle.std.proofs.lemmas.Bool.{false≢true, and_parts, ltb-true}
use Rattle.std.proofs.lemmas.Bool.Decides.{eqb_tells}
use Rattle.cabinet_text_bytes.specs.Words.{is_plain_byte}
use Rattle.cabinet_text_grammar.specs.Spelling.{escaped, escaped_byte}
use Rattle.cabinet_text_grammar.proofs.Escapes.{Form, backslash, newline, space, plain, form_of, escaped-append, shorter}

stands : (b : ℕ) (v : List ℕ) → b ≢ 92 → b ≢ 10 → b ≢ 32 → Form b v → v ≡ b ∷ []
stands b _ p q r (backslash e) = absurd (p e)
stands b _ p q r (newline e) = absurd (q e)
stands b _ p q r (space e) = absurd (r e)
stands b _ p q r (plain p' q' r') = refl

differs : (b c : ℕ) → not (b == c) ≡ true → b ≢ c
differs b c h =
    elim (eqb_tells b c) [
      | inl is ↦ absurd (false≢true (sym (ap not is.0) ∙ h))
      | inr other ↦ other.1
    ]

-- plain bytes represent themselves
pub own_form : (bytes : List ℕ) → list_all is_plain_byte bytes ≡ true → bytes ≡ escaped bytes
own_form [] h = refl
own_form (b ∷ bs) h =
    let p = and_parts (is_plain_byte b) (list_all is_plain_byte bs) h in
    let first = and_parts (nat_lt 32 b) (not (b == 92)) p.0 in
    let above : 32 < b = ltb-true 32 b first.0 in
    let own = stands b (escaped_byte b) (differs b 92 first.1) (λ e. omega (arith, above, e)) (λ e. omega (arith, above, e)) (form_of b) in
    ap (λ w. b ∷ w) (own_form bs p.1) ∙ ap (λ v. v ++ escaped bs) (sym own)

plain_front : (bytes : List ℕ) (n : ℕ) → ((k : ℕ) → k < n → is_plain_byte (get_or bytes k 0) ≡ true) → list_all is_plain_byte (take n bytes) ≡ true
plain_front bytes zero h = refl
plain_front [] (suc n) h = refl
plain_front (b ∷ bs) (suc n) h =
    let first : is_plain_byte b ≡ true = h 0 (omega arith) in
    rw first (plain_front bs n (λ k l. h (suc k) (omega arith)))

-- plain bytes in front represent themselves
pub front_stands : (bytes : List ℕ) (n : ℕ) → ((k : ℕ) → k < n → is_plain_byte (get_or bytes k 0) ≡ true) → take n bytes ≡ escaped (take n bytes)
front_stands bytes n h = own_form (take n bytes) (plain_front bytes n h)

-- a run of plain bytes is read
pub run_read : (whole text rest run special : List ℕ) → whole ≡ escaped text ++ rest → rest ≡ run ++ special → run ≡ escaped run → whole ≡ escaped (text ++ run) ++ special
run_read whole text rest run special h e own =
    h
    ∙ ap (λ w. escaped text ++ w) e
    ∙ ap (λ v. escaped text ++ (v ++ special)) own
    ∙ sym (append_assoc (escaped text) (escaped run) special)
    ∙ ap (λ w. w ++ special) (sym (escaped-append text run))

-- where nothing is left, all is read
pub last_read : (whole text rest : List ℕ) → whole ≡ escaped text ++ rest → length rest ≡ 0 → whole ≡ escaped text
last_read whole text [] h none = h ∙ append-nil (escaped text)
last_read whole text (b ∷ rest) h none = absurd (omega (arith, none))

-- what is left of no bytes is none
pub none_left : (whole text rest : List ℕ) → whole ≡ escaped text ++ rest → whole ≡ [] → length rest ≡ 0
none_left whole text rest h none = omega (arith, ap length h, ap length none, length-append (escaped text) rest)

-- where a byte is read, there are bytes
pub some_left : (whole text special after : List ℕ) (b : ℕ) → whole ≡ escaped text ++ special → special ≡ escaped_byte b ++ after → whole ≢ []
some_left whole text special after b h e none =
    omega (arith, none_left whole text special h none, shorter b (escaped_byte b) special after (form_of b) e)
