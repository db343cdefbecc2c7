-- The parts of lines that add nodes: a node that stands alone and the path to it, and the errors of reading them.
use Rattle.std.specs.Prelude.{◌≡◌, ◌≢◌, ℕ, List, ◌++◌, ◌⊎◌, All, IsUtf8}
use Rattle.cabinet_text_bytes.specs.Words.{IsEscaped}
use Rattle.cabinet_text_grammar.specs.Tree.{Tree}
use Rattle.cabinet_text_grammar.specs.Spelling.{escaped, spelled}
use Rattle.cabinet_text_grammar.specs.Path.{Step}
use Rattle.cabinet_text_grammar.specs.Line.{IsStep, spelled_path}
use Rattle.cabinet_text_grammar.specs.Answering.{head_of}
use Rattle.cabinet_text_grammar.specs.EditLine.{IsAlone}
use Rattle.cabinet_text_nodes.specs.declared.line.LineRefusal.{LineRefusal}
use Rattle.cabinet_text_nodes.specs.declared.line.LineRefusal.TheVariants.{Bad, OutOfMemory}
use Rattle.cabinet_text_reading.specs.Reading.{HasSteps, NodeTakesMemory}

-- the bytes are the escaped form of no text; memory is refused for that of any text
abbrev pub RefusesSharedText : List ℕ → LineRefusal → Type 0
RefusesSharedText bytes Bad = (t : List ℕ) → IsUtf8 t → bytes ≢ escaped t
RefusesSharedText bytes OutOfMemory = IsEscaped bytes

-- the bytes are no head of a node that stands alone; memory is refused only for one that takes some
abbrev pub RefusesNode : List ℕ → LineRefusal → Type 0
RefusesNode bytes Bad = (t : Tree) → IsAlone t → bytes ≢ spelled (head_of t)
RefusesNode bytes OutOfMemory = (t : Tree) × IsAlone t × (bytes ≡ spelled (head_of t)) × NodeTakesMemory t

-- the spellings of a node's head and of a path
abbrev pub SpellsAdded : List ℕ → List Step → Tree → Type 0
SpellsAdded bytes path new = All IsStep path × IsAlone new × (bytes ≡ spelled (head_of new) ++ spelled_path path)

-- the bytes are no head and path; memory is refused only for those that take some
abbrev pub RefusesAdded : List ℕ → LineRefusal → Type 0
RefusesAdded bytes Bad = (path : List Step) (new : Tree) → SpellsAdded bytes path new → ⊥
RefusesAdded bytes OutOfMemory = (path : List Step) × (new : Tree) × SpellsAdded bytes path new × (HasSteps path ⊎ NodeTakesMemory new)
