-- Texts and numbers correspond one to one.
use Rattle.std.proofs.Common.{◌≡◌, ℕ, zero, suc, ◌+◌, ◌*◌, ◌/◌, ◌%◌, ◌^◌, ◌==◌, ◌≤◌, ◌<◌, true, false, cond, List, [], ◌∷◌, refl, sym, ap, ap₂, ◌∙◌, arith, eq-eqb}
use Rattle.std.proofs.lemmas.Bool.{ne_eqb}
use Rattle.std.proofs.Math.Nat.{pow-suc}
use Rattle.cabinet_text_grammar.specs.TextKey.{text_key, text_from, KeyHasText, TextHasKey}

-- ---- a step, by what the number is

nothing_left : (steps b : ℕ) → text_from steps b 0 ≡ []
nothing_left zero b = refl
nothing_left (suc steps) b = refl

halved : (steps b n k : ℕ) → 0 < k → n ≡ k + k → text_from (suc steps) b n ≡ text_from steps (b + 1) k
halved steps b n k some e =
    let is_some : (n == 0) ≡ false = ne_eqb n 0 (λ z. omega (arith, some, e, z)) in
    let is_even : (n % 2 == 0) ≡ true = eq-eqb (n % 2) 0 (omega (arith, e)) in
    let half : n / 2 ≡ k = omega (arith, e) in
    ap₂ (λ x y. cond x [] (cond y (text_from steps (b + 1) (n / 2)) (b ∷ text_from steps 0 (n / 2)))) is_some is_even ∙ ap (text_from steps (b + 1)) half

taken : (steps b n k : ℕ) → n ≡ k + k + 1 → text_from (suc steps) b n ≡ b ∷ text_from steps 0 k
taken steps b n k e =
    let is_some : (n == 0) ≡ false = ne_eqb n 0 (λ z. omega (arith, e, z)) in
    let is_odd : (n % 2 == 0) ≡ false = ne_eqb (n % 2) 0 (λ z. omega (arith, e, z)) in
    let half : n / 2 ≡ k = omega (arith, e) in
    ap₂ (λ x y. cond x [] (cond y (text_from steps (b + 1) (n / 2)) (b ∷ text_from steps 0 (n / 2)))) is_some is_odd ∙ ap (λ h. b ∷ text_from steps 0 h) half

-- ---- from a text to its number and back

doubled : (c m : ℕ) → 2 ^ suc c * m ≡ 2 ^ c * m + 2 ^ c * m
doubled c m = omega (arith, ap (λ x. x * m) (pow-suc 2 c))

positive : (c k : ℕ) → 0 < 2 ^ c * (k * 2 + 1)
positive zero k = omega arith
positive (suc c) k = let h = positive c k in let d = doubled c (k * 2 + 1) in omega (arith, h, d)

-- halvings lead to the byte, and then to the others
byte_back : (s : List ℕ) (c b steps : ℕ) → 2 ^ c * (text_key s * 2 + 1) ≤ steps → text_from steps b (2 ^ c * (text_key s * 2 + 1)) ≡ (b + c) ∷ s
byte_back s c b zero less = absurd (let h = positive c (text_key s) in omega (arith, h, less))
byte_back [] zero b (suc steps) less = taken steps b (2 ^ 0 * (0 * 2 + 1)) 0 (omega arith) ∙ ap₂ (λ x y. x ∷ y) (omega arith) (nothing_left steps 0)
byte_back (d ∷ s) zero b (suc steps) less =
    taken steps b (2 ^ 0 * (text_key (d ∷ s) * 2 + 1)) (text_key (d ∷ s)) (omega arith) ∙ ap₂ (λ x y. x ∷ y) (omega arith) (byte_back s d 0 steps (omega (arith, less)) ∙ ap (λ x. x ∷ s) (omega arith))
byte_back s (suc c) b (suc steps) less =
    let k = 2 ^ c * (text_key s * 2 + 1) in
    let d = doubled c (text_key s * 2 + 1) in
    let some = positive c (text_key s) in
    halved steps b (2 ^ suc c * (text_key s * 2 + 1)) k some d ∙ byte_back s c (b + 1) steps (omega (arith, less, d, some)) ∙ ap (λ x. x ∷ s) (omega arith)

text_back : (s : List ℕ) (steps : ℕ) → text_key s ≤ steps → text_from steps 0 (text_key s) ≡ s
text_back [] steps less = nothing_left steps 0
text_back (b ∷ s) steps less = byte_back s b 0 steps less ∙ ap (λ x. x ∷ s) (omega arith)

pub key_has_text_law : KeyHasText
key_has_text_law s = text_back s (text_key s) (omega arith)

-- ---- from a number to its text and back

data Halves (n : ℕ) : Type 0 where
  none : n ≡ 0 → Halves n
  even : (k : ℕ) → 0 < k → n ≡ k + k → Halves n
  odd : (k : ℕ) → n ≡ k + k + 1 → Halves n

halves : (n : ℕ) → Halves n
halves zero = none refl
halves (suc n) = by (halves n)
  where
    by : Halves n → Halves (suc n)
    by (none e) = odd 0 (omega (arith, e))
    by (even k some e) = odd k (omega (arith, e))
    by (odd k e) = even (k + 1) (omega arith) (omega (arith, e))

-- one step, where further ones lead from a number back to it
step_back :
    (steps b n : ℕ) → 0 < n → n ≤ suc steps
    → ((c k : ℕ) → 0 < k → k ≤ steps → text_key (text_from steps c k) ≡ 2 ^ c * k)
    → Halves n → text_key (text_from (suc steps) b n) ≡ 2 ^ b * n
step_back steps b n some less further (none e) = absurd (omega (arith, some, e))
step_back steps b n some less further (even k more e) =
    let d : 2 ^ suc b * k ≡ 2 ^ b * k + 2 ^ b * k = doubled b k in
    let p : 2 ^ (b + 1) ≡ 2 ^ suc b = ap (λ x. 2 ^ x) (omega arith) in
    ap text_key (halved steps b n k more e) ∙ further (b + 1) k more (omega (arith, less, e, more)) ∙ ap (λ x. x * k) p ∙ d ∙ omega arith ∙ ap (λ x. 2 ^ b * x) (sym e)
step_back steps b n some less further (odd zero e) =
    ap text_key (taken steps b n 0 e) ∙ ap (λ x. 2 ^ b * (text_key x * 2 + 1)) (nothing_left steps 0) ∙ ap (λ x. 2 ^ b * x) (omega arith ∙ sym e)
step_back steps b n some less further (odd (suc k) e) =
    let rest : text_key (text_from steps 0 (suc k)) ≡ suc k = further 0 (suc k) (omega arith) (omega (arith, less, e)) ∙ omega arith in
    ap text_key (taken steps b n (suc k) e) ∙ ap (λ x. 2 ^ b * (x * 2 + 1)) rest ∙ ap (λ x. 2 ^ b * x) (omega arith ∙ sym e)

key_back : (steps b n : ℕ) → 0 < n → n ≤ steps → text_key (text_from steps b n) ≡ 2 ^ b * n
key_back zero b n some less = absurd (omega (arith, some, less))
key_back (suc steps) b n some less = step_back steps b n some less (key_back steps) (halves n)

pub text_has_key_law : TextHasKey
text_has_key_law zero = refl
text_has_key_law (suc n) = key_back (suc n) 0 (suc n) (omega arith) (omega arith) ∙ omega arith
