-- The numbers of texts, by which they are shared.
use Rattle.std.specs.Prelude.{◌≡◌, ℕ, zero, suc, ◌+◌, ◌*◌, ◌/◌, ◌%◌, ◌^◌, ◌==◌, cond, List, [], ◌∷◌}

-- each byte b is represented by b halvings before an odd number
abbrev pub text_key : List ℕ → ℕ
text_key [] = 0
text_key (b ∷ s) = 2 ^ b * (text_key s * 2 + 1)

-- in at most `steps` steps, of which each halves the number; `count` halvings were counted for the next byte
abbrev pub text_from : (steps count n : ℕ) → List ℕ
text_from zero b n = []
text_from (suc steps) b n = cond (n == 0) [] (cond (n % 2 == 0) (text_from steps (b + 1) (n / 2)) (b ∷ text_from steps 0 (n / 2)))

-- the text with a number
abbrev pub text_of_key : ℕ → List ℕ
text_of_key n = text_from n 0 n

-- ---- laws, as statements

-- a text's number leads back to it
abbrev pub KeyHasText : Type 0
KeyHasText = (s : List ℕ) → text_of_key (text_key s) ≡ s

-- and each number is that of its text
abbrev pub TextHasKey : Type 0
TextHasKey = (n : ℕ) → text_key (text_of_key n) ≡ n
