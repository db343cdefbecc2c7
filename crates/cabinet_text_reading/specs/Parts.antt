-- The parts of lines: steps, paths and leaves, and the errors of reading them.
use Rattle.std.specs.Prelude.{◌≡◌, ◌≢◌, ℕ, ◌<◌, ◌^◌, List, [], ◌∷◌, ◌++◌, codes, All, IsUtf8}
use Rattle.std.specs.Fmt.{decimal}
use Rattle.cabinet_text_bytes.specs.Words.{IsEscaped, HasNoSpace, IsAtSpace}
use Rattle.cabinet_text_grammar.specs.Tree.{Leaf, IsLeaf, Tree}
use Rattle.cabinet_text_grammar.specs.Spelling.{escaped, spelled, spelled_leaf}
use Rattle.cabinet_text_grammar.specs.Path.{Step, key}
use Rattle.cabinet_text_grammar.specs.Answering.{head_of}
use Rattle.cabinet_text_grammar.specs.EditLine.{IsAlone}
use Rattle.cabinet_text_grammar.specs.Line.{IsStep, spelled_step, spelled_path}
use Rattle.cabinet_text_nodes.specs.declared.line.LineRefusal.{LineRefusal}
use Rattle.cabinet_text_nodes.specs.declared.line.LineRefusal.TheVariants.{Bad, OutOfMemory}
use Rattle.cabinet_text_reading.specs.declared.lines.path.StepRef.{StepRef}
use Rattle.cabinet_text_reading.specs.declared.lines.path.StepRef.TheVariants.{Key, Place, Inside}

-- the spelling of a step
abbrev pub IsSpelledStep : List ℕ → Type 0
IsSpelledStep bytes = (step : Step) × IsStep step × (bytes ≡ spelled_step step)

-- the spelling of a path
abbrev pub IsPath : List ℕ → Type 0
IsPath bytes = (path : List Step) × All IsStep path × (bytes ≡ spelled_path path)

-- the bytes of a borrowed step, whose key is still escaped, or no escaped text
abbrev pub lent_step : StepRef → List ℕ
lent_step (Key argument) = codes "'" ++ argument.now
lent_step (Place n) = codes "#" ++ decimal n
lent_step Inside = codes "?"

-- the place of a borrowed step is counted in 64 bits
abbrev pub PlaceFits : StepRef → Type 0
PlaceFits (Key argument) = Unit {0}
PlaceFits (Place n) = n < 2 ^ 64
PlaceFits Inside = Unit {0}

-- the bytes begin with a space and a word, and `rest` is the bytes after the word
pub record BeginsWithWord (bytes word rest : List ℕ) : Type 0 where
  pub no_space : HasNoSpace word
  pub spelled : bytes ≡ codes " " ++ (word ++ rest)
  pub space : IsAtSpace rest

-- the spelling of a path whose first step is a key
abbrev pub BeginsByKey : List ℕ → Type 0
BeginsByKey bytes = (k : List ℕ) × (path : List Step) × IsUtf8 k × All IsStep path × (bytes ≡ spelled_path (key k ∷ path))

-- where bytes are the spellings of a node's head and of a path after it, the head's are `front` and the path's are `rest`
abbrev pub IsCutAfterHead : List ℕ → List ℕ → List ℕ → Type 0
IsCutAfterHead bytes front rest =
    (t : Tree) (path : List Step)
    → IsAlone t → bytes ≡ spelled (head_of t) ++ spelled_path path → (front ≡ spelled (head_of t)) × (rest ≡ spelled_path path)

-- the bytes are no step; memory is refused only for a step
abbrev pub RefusesStep : List ℕ → LineRefusal → Type 0
RefusesStep bytes Bad = IsSpelledStep bytes → ⊥
RefusesStep bytes OutOfMemory = IsSpelledStep bytes

-- the bytes are no path; memory is refused only for bytes, whether or not they are a path
abbrev pub RefusesSteps : List ℕ → LineRefusal → Type 0
RefusesSteps bytes Bad = IsPath bytes → ⊥
RefusesSteps bytes OutOfMemory = bytes ≢ []

-- the bytes are no path; memory is refused only for a path with steps
abbrev pub RefusesPath : List ℕ → LineRefusal → Type 0
RefusesPath bytes Bad = IsPath bytes → ⊥
RefusesPath bytes OutOfMemory = IsPath bytes × (bytes ≢ [])

-- the bytes are no leaf; memory is refused only for a text that is not empty
abbrev pub RefusesLeaf : List ℕ → LineRefusal → Type 0
RefusesLeaf bytes Bad = (l : Leaf) → IsLeaf l → bytes ≢ spelled_leaf l
RefusesLeaf bytes OutOfMemory = (rest : List ℕ) × (bytes ≡ codes "text '" ++ rest) × IsEscaped rest × (rest ≢ [])

-- the bytes are the escaped form of no text; memory is refused only for that of a text that is not empty
abbrev pub RefusesText : List ℕ → LineRefusal → Type 0
RefusesText bytes Bad = (t : List ℕ) → IsUtf8 t → bytes ≢ escaped t
RefusesText bytes OutOfMemory = IsEscaped bytes × (bytes ≢ [])
