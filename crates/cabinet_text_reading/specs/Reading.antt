-- The errors of reading bytes as a line, and as one of a session in which documents grow.
use Rattle.std.specs.Prelude.{◌≢◌, ℕ, List, [], ◌∷◌, ◌⊎◌, Some, None}
use Rattle.cabinet_text_grammar.specs.Tree.{Leaf, truth, number, text, Tree, leaf, shared}
use Rattle.cabinet_text_grammar.specs.Path.{Step}
use Rattle.cabinet_text_grammar.specs.Line.{Line, get, keys, range, set, Says}
use Rattle.cabinet_text_grammar.specs.EditLine.{EditLine, about, put_line, insert_line, remove_line, SaysEdit}
use Rattle.cabinet_text_nodes.specs.declared.line.LineRefusal.{LineRefusal}
use Rattle.cabinet_text_nodes.specs.declared.line.LineRefusal.TheVariants.{Bad, OutOfMemory}

abbrev pub HasSteps : List Step → Type 0
HasSteps [] = ⊥
HasSteps (step ∷ path) = Unit {0}

abbrev pub IsSomeText : Leaf → Type 0
IsSomeText (truth b) = ⊥
IsSomeText (number n) = ⊥
IsSomeText (text t) = t ≢ []

-- memory is allocated for the steps of a path, and for bounds of a range and a text that are not empty
abbrev pub TakesMemory : Line → Type 0
TakesMemory (get path) = HasSteps path
TakesMemory (keys path) = HasSteps path
TakesMemory (range low high path) = (low ≢ []) ⊎ (high ≢ []) ⊎ HasSteps path
TakesMemory (set path l) = HasSteps path ⊎ IsSomeText l

-- the bytes are no line; memory is refused only for a line that allocates some
abbrev pub RefusesLine : List ℕ → LineRefusal → Type 0
RefusesLine bytes Bad = Says bytes None
RefusesLine bytes OutOfMemory = (line : Line) × Says bytes (Some line) × TakesMemory line

-- a shared text takes memory for its count, even if it is empty
abbrev pub NodeTakesMemory : Tree → Type 0
NodeTakesMemory (leaf l) = IsSomeText l
NodeTakesMemory (shared t) = Unit {0}
NodeTakesMemory _ = ⊥

abbrev pub EditTakesMemory : EditLine → Type 0
EditTakesMemory (about line) = TakesMemory line
EditTakesMemory (put_line path new) = HasSteps path ⊎ NodeTakesMemory new
EditTakesMemory (insert_line path new) = HasSteps path ⊎ NodeTakesMemory new
EditTakesMemory (remove_line path) = HasSteps path

abbrev pub RefusesEditLine : List ℕ → LineRefusal → Type 0
RefusesEditLine bytes Bad = SaysEdit bytes None
RefusesEditLine bytes OutOfMemory = (line : EditLine) × SaysEdit bytes (Some line) × EditTakesMemory line
