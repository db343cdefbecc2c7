-- A text by its escaped form, compared to a key byte by byte.
use Rattle.std.proofs.Common.{◌≡◌, ◌≢◌, ℕ, ◌+◌, ◌<◌, ◌≤◌, List, [], ◌∷◌, ◌++◌, length, sym, ap, ◌∙◌, refl, arith, eqb, inl, inr}
use Rattle.std.specs.Bool.{OnTrue}
use Rattle.std.specs.Cmp.Lexicographic.{slice_cmp}
use Rattle.std.specs.declared.cmp.Ordering.TheVariants.{Less, Equal, Greater}
use Rattle.std.specs.Ordering.{nat_cmp, ordering_then}
use Rattle.std.proofs.lemmas.Bool.Decides.{eqb_tells}
use Rattle.cabinet_text_grammar.specs.Spelling.{escaped, escaped_byte}
use Rattle.cabinet_text_grammar.proofs.Escapes.{Form, backslash, newline, space, plain, form_of, same_first, shorter, escaped_injective}

-- the byte that an escaped text begins with is the text's first
pub first_of : (rest after : List ℕ) (b : ℕ) (u : List ℕ) → rest ≡ escaped_byte b ++ after → rest ≡ escaped u → (v : List ℕ) × (u ≡ b ∷ v) × (after ≡ escaped v)
first_of rest after b [] h e =
    let some : length after + 1 ≤ length rest = shorter b (escaped_byte b) rest after (form_of b) h in
    let none : length rest ≡ 0 = ap length e in
    absurd (omega (arith, some, none))
first_of rest after b (d ∷ u) h e =
    let firsts = same_first b d _ _ _ _ (form_of b) (form_of d) (sym h ∙ e) in
    (u, ap (λ x. x ∷ u) (sym firsts.0), firsts.1)

-- where it begins with none, the text is empty
pub no_first : (rest u : List ℕ) → ((b : ℕ) (t : List ℕ) → rest ≢ escaped (b ∷ t)) → rest ≡ escaped u → u ≡ []
no_first rest [] none e = refl
no_first rest (b ∷ u) none e = absurd (none b u e)

pub firsts_decide : (u left v others : List ℕ) (b d : ℕ) → u ≡ b ∷ v → left ≡ d ∷ others → slice_cmp nat_cmp u left ≡ ordering_then (nat_cmp b d) (slice_cmp nat_cmp v others)
firsts_decide u left v others b d h k = rw (h, k) refl

pub key_shorter : (u left v : List ℕ) (b : ℕ) → u ≡ b ∷ v → length left ≡ 0 → slice_cmp nat_cmp u left ≡ Greater
key_shorter u [] v b h none = rw h refl
key_shorter u (d ∷ left) v b h none = absurd (omega (arith, none))

pub both_end : (u left : List ℕ) → u ≡ [] → length left ≡ 0 → slice_cmp nat_cmp u left ≡ Equal
both_end u [] h none = rw h refl
both_end u (d ∷ left) h none = absurd (omega (arith, none))

pub text_shorter : (u left : List ℕ) → u ≡ [] → 0 < length left → slice_cmp nat_cmp u left ≡ Less
text_shorter u [] h some = absurd (omega (arith, some))
text_shorter u (d ∷ left) h some = rw h refl

-- ---- a text that is its own escaped form

some_form : (b : ℕ) (v rest : List ℕ) → Form b v → length rest + 1 ≤ length (v ++ rest)
some_form b v rest form = shorter b v (v ++ rest) rest form refl

no_shorter : (t : List ℕ) → length t ≤ length (escaped t)
no_shorter [] = omega arith
no_shorter (b ∷ t) = omega (arith, no_shorter t, some_form b (escaped_byte b) (escaped t) (form_of b))

own_first : (b : ℕ) (v t : List ℕ) → Form b v → length (v ++ escaped t) ≡ length t + 1 → (v ≡ b ∷ []) × (length (escaped t) ≡ length t)
own_first b _ t (backslash e) h = absurd (omega (arith, h, no_shorter t))
own_first b _ t (newline e) h = absurd (omega (arith, h, no_shorter t))
own_first b _ t (space e) h = absurd (omega (arith, h, no_shorter t))
own_first b _ t (plain p q r) h = (refl, omega (arith, h))

own_form : (t : List ℕ) → length (escaped t) ≡ length t → escaped t ≡ t
own_form [] h = refl
own_form (b ∷ t) h =
    let first = own_first b (escaped_byte b) t (form_of b) (omega (arith, h)) in
    ap (λ v. v ++ escaped t) first.0 ∙ ap (λ u. b ∷ u) (own_form t first.1)

pub own_text_told : (argument : List ℕ) (len : ℕ) → (s : List ℕ) × (length s ≡ len) × (argument ≡ escaped s) → OnTrue (eqb len (length argument)) ((t : List ℕ) → argument ≡ escaped t → argument ≡ t)
own_text_told argument len h =
    elim (eqb_tells len (length argument)) [
      | inl is ↦ rw is.0 (λ t e. h.2 ∙ own_form h.0 (omega (arith, h.1, is.1, ap length h.2)) ∙ escaped_injective h.0 t (sym h.2 ∙ e))
      | inr differs ↦ rw differs.0 tt
    ]
