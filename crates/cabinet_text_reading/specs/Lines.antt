-- The rest of a text of which some lines were taken.
use Rattle.std.specs.Prelude.{◌≡◌, ℕ, ◌<◌, List, ◌++◌, length, IsUtf8}

-- with any more of the bytes after it, `rest` is not UTF-8
abbrev pub IsLongest : List ℕ → List ℕ → Type 0
IsLongest rest more = (front tail : List ℕ) → more ≡ front ++ tail → 0 < length front → IsUtf8 (rest ++ front) → ⊥
