-- The lines that request a part of a document or change it.
use Rattle.std.specs.Prelude.{◌≡◌, ◌≢◌, ℕ, ◌<◌, ◌^◌, List, [], ◌∷◌, ◌++◌, codes, Option, Some, None, All, IsUtf8}
use Rattle.std.specs.Fmt.{decimal}
use Rattle.cabinet_text_grammar.specs.Tree.{Leaf, IsLeaf}
use Rattle.cabinet_text_grammar.specs.Item.{key_item}
use Rattle.cabinet_text_grammar.specs.Spelling.{spelled, spelled_leaf}
use Rattle.cabinet_text_grammar.specs.Path.{Step, key, place, inside}

pub data Line : Type 0 where
  -- the head of a node
  get : List Step → Line
  -- the keys of a map
  keys : List Step → Line
  -- the keys of a map at or above the first bound and below the second
  range : List ℕ → List ℕ → List Step → Line
  set : List Step → Leaf → Line

abbrev pub spelled_step : Step → List ℕ
spelled_step (key k) = spelled (key_item k)
spelled_step (place n) = codes "#" ++ decimal n
spelled_step inside = codes "?"

-- each step after one space
abbrev pub spelled_path : List Step → List ℕ
spelled_path [] = []
spelled_path (step ∷ path) = codes " " ++ (spelled_step step ++ spelled_path path)

-- without the newline
abbrev pub spelling : Line → List ℕ
spelling (get path) = codes "get" ++ spelled_path path
spelling (keys path) = codes "keys" ++ spelled_path path
spelling (range low high path) = codes "range" ++ spelled_path (key low ∷ key high ∷ path)
spelling (set path l) = codes "set " ++ (spelled_leaf l ++ spelled_path path)

-- keys are UTF-8, places are counted in 64 bits
abbrev pub IsStep : Step → Type 0
IsStep (key k) = IsUtf8 k
IsStep (place n) = n < 2 ^ 64
IsStep inside = Unit {0}

abbrev pub IsPossible : Line → Type 0
IsPossible (get path) = All IsStep path
IsPossible (keys path) = All IsStep path
IsPossible (range low high path) = IsUtf8 low × IsUtf8 high × All IsStep path
IsPossible (set path l) = All IsStep path × IsLeaf l

-- the line that bytes are the spelling of, or none
abbrev pub Says : List ℕ → Option Line → Type 0
Says bytes None = (line : Line) → IsPossible line → bytes ≢ spelling line
Says bytes (Some line) = IsPossible line × (bytes ≡ spelling line)
