-- What each function ensures, where that is longer than a line.
use denote.Ref.{Bor}
use Rattle.std.specs.Prelude.{◌≡◌, ◌≢◌, ℕ, ℤ, ◌^◌, ◌<◌, ◌≤◌, Bool, List, [], ◌∷◌, ◌++◌, length, codes, Option, Result, String, Vec, string_bytes, FitsSigned, MatchOption}
use Rattle.std.specs.Fmt.{decimal, signed_decimal}
use Rattle.std.specs.Int.{w64}
use Rattle.std.specs.Str.Parse.{AllDigits, digits_value}
use Rattle.std.specs.declared.alloc.Global.{Global}
use Rattle.archive_shape_layout.specs.Writing.{WriterMembers, Writes}
use Rattle.archive_shape_layout.specs.declared.error.Error.{Error}
use Rattle.cabinet_text_grammar.specs.Spelling.{escaped, escaped_byte, spelled_leaf}
use Rattle.cabinet_text_grammar.specs.Tree.{truth}
use Rattle.cabinet_text_bytes.specs.Words.{IsEscaped}

-- the bytes after a prefix, if the bytes begin with it
abbrev pub CutsPrefix : (prefix bytes : List ℕ) → Option (Bor (List ℕ)) → Type 0
CutsPrefix prefix bytes result =
    MatchOption result ((rest : List ℕ) → bytes ≢ prefix ++ rest) (λ rest. bytes ≡ prefix ++ rest.now)

-- the truth value whose line the bytes are, if they are one's
abbrev pub ReadsTruth : (bytes : List ℕ) → Option Bool → Type 0
ReadsTruth bytes result = MatchOption result ((b : Bool) → bytes ≢ spelled_leaf (truth b)) (λ b. bytes ≡ spelled_leaf (truth b))

-- ---- numbers

-- the value of digits, if all bytes are digits and it fits in 64 bits
abbrev pub ReadsDigits : (digits : List ℕ) → Option ℕ → Type 0
ReadsDigits digits result =
    MatchOption result
    (AllDigits 10 digits → 2 ^ 64 ≤ digits_value 10 digits)
    (λ n. (n < 2 ^ 64) × AllDigits 10 digits × (digits_value 10 digits ≡ n))

-- the count of 64 bits that the digits are in decimal, if they are one's
abbrev pub ReadsCount : (digits : List ℕ) → Option ℕ → Type 0
ReadsCount digits result = MatchOption result ((n : ℕ) → n < 2 ^ 64 → digits ≢ decimal n) (λ n. digits ≡ decimal n)

-- the number of 64 bits at a distance below zero, if there is one
abbrev pub ReadsBelowZero : (distance : ℕ) → Option ℤ → Type 0
ReadsBelowZero distance result =
    MatchOption result
    ((n : ℤ) → FitsSigned w64 n → signed_decimal n ≢ 45 ∷ decimal distance)
    (λ n. FitsSigned w64 n × (signed_decimal n ≡ 45 ∷ decimal distance))

-- the number of 64 bits that the bytes are in decimal, if they are one's
abbrev pub ReadsNumber : (bytes : List ℕ) → Option ℤ → Type 0
ReadsNumber bytes result =
    MatchOption result ((n : ℤ) → FitsSigned w64 n → bytes ≢ signed_decimal n) (λ n. FitsSigned w64 n × (bytes ≡ signed_decimal n))

-- ---- escaped texts

-- the byte that an escaped text begins with and the bytes after its escaped form, if it is not empty
abbrev pub ReadsFirstByte : (bytes : List ℕ) → Option (ℕ × Bor (List ℕ)) → Type 0
ReadsFirstByte bytes result =
    MatchOption result ((b : ℕ) (t : List ℕ) → bytes ≢ escaped (b ∷ t)) (λ p. bytes ≡ escaped_byte p.0 ++ p.1.now)

-- the length of the bytes that an argument is the escaped form of, if it is one
abbrev pub ReadsLength : (argument : List ℕ) → Option ℕ → Type 0
ReadsLength argument result =
    MatchOption result ((t : List ℕ) → argument ≢ escaped t) (λ n. (t : List ℕ) × (length t ≡ n) × (argument ≡ escaped t))

-- the bytes that an argument is the escaped form of, if it is one
abbrev pub ReadsEscaped : (argument : List ℕ) → Option (Vec ℕ Global) → Type 0
ReadsEscaped argument result = MatchOption result ((t : List ℕ) → argument ≢ escaped t) (λ text. argument ≡ escaped text.items)

-- the text that an argument is the escaped form of, if it is one
abbrev pub ReadsText : (argument : List ℕ) → Option (String Global) → Type 0
ReadsText argument result = MatchOption result (IsEscaped argument → ⊥) (λ text. argument ≡ escaped (string_bytes text))

-- the escape of a byte, unless the byte represents itself
abbrev pub GivesEscape : (byte : ℕ) → Option (Bor (List ℕ)) → Type 0
GivesEscape byte result = MatchOption result (escaped_byte byte ≡ byte ∷ []) (λ escape. escaped_byte byte ≡ escape.now)

-- ---- lines

-- a line is written, with the newline that ends it
abbrev pub WritesLine : {W A : Type 0} → WriterMembers W → (early late : W) (line : List ℕ) → Result A Error → Type 0
WritesLine w early late line result = Writes w early late (line ++ codes "\n") result
