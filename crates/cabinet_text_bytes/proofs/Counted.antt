-- Arguments that are UTF-8 and the escaped form of some bytes.
use Rattle.std.proofs.Common.{◌≢◌, Option, Some, None, MatchOption, is_some, ◌≡◌, ℕ, Bool, List, length, IsUtf8, subst}
use Rattle.std.specs.Bool.{OnTrue}
use Rattle.cabinet_text_bytes.specs.Words.{IsEscaped}
use Rattle.cabinet_text_grammar.specs.Spelling.{escaped}
use Rattle.cabinet_text_grammar.proofs.Utf8.{IsUtf8-unescaped}

-- an argument that is UTF-8 is an escaped text where it is the escaped form of some bytes
pub escaped_where_counted : (argument : List ℕ) (r : Option ℕ) (b : Bool) → b ≡ is_some r → IsUtf8 argument
    → MatchOption r ((t : List ℕ) → argument ≢ escaped t) (λ n. (t : List ℕ) × (length t ≡ n) × (argument ≡ escaped t))
    → OnTrue b (IsEscaped argument)
escaped_where_counted argument None b e utf8 h = rw e tt
escaped_where_counted argument (Some n) b e utf8 h = rw e (h.0, IsUtf8-unescaped h.0 (subst IsUtf8 h.2 utf8), h.2)
