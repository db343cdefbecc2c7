-- Escaped texts, and words that a space ends.
use Rattle.std.specs.Prelude.{◌≡◌, ◌≢◌, ℕ, ◌==◌, nat_lt, ◌&&◌, Bool, not, List, [], ◌∷◌, All, IsUtf8}
use Rattle.cabinet_text_grammar.specs.Spelling.{escaped}

-- the escaped form of a text
abbrev pub IsEscaped : List ℕ → Type 0
IsEscaped bytes = (t : List ℕ) × IsUtf8 t × (bytes ≡ escaped t)

-- above a space, and no backslash
abbrev pub is_plain_byte : ℕ → Bool
is_plain_byte b = nat_lt 32 b && not (b == 92)

abbrev pub HasNoSpace : List ℕ → Type 0
HasNoSpace bytes = All (λ b. b ≢ 32) bytes

-- nothing, or a space and what follows it
abbrev pub IsAtSpace : List ℕ → Type 0
IsAtSpace [] = Unit {0}
IsAtSpace (b ∷ bytes) = b ≡ 32
