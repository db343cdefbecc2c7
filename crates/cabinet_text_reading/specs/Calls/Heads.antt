use denote.Ref.{Bor}
use Rattle.std.specs.Prelude.{◌≡◌, ◌≢◌, ℕ, ◌++◌, List, Option, Result, IfOk, IfErr, MatchOption}
use Rattle.cabinet_text_grammar.specs.Due.{a_head, Admits}
use Rattle.cabinet_text_grammar.specs.Fault.{HasCount}
use Rattle.cabinet_text_grammar.specs.Item.{Item, none_item, some_item}
use Rattle.cabinet_text_grammar.specs.Spelling.{spelled}
use Rattle.cabinet_text_grammar.specs.Tree.{Tree}
use Rattle.cabinet_text_grammar.specs.Wholes.{IsTable}
use Rattle.cabinet_text_grammar.specs.declared.cause.Cause.{Cause}
use Rattle.cabinet_text_grammar.specs.declared.cause.Cause.TheVariants.{OutOfMemory}
use Rattle.cabinet_text_nodes.specs.Faults.{AreDepths}
use Rattle.cabinet_text_nodes.specs.View.{item_of}
use Rattle.cabinet_text_nodes.specs.declared.head.Head.{Head}
use Rattle.cabinet_text_reading.specs.Causes.{a_line, IsFaultAt}
use Rattle.cabinet_text_reading.specs.Heads.{IsTextItem, IsContainer, count_word}
use Rattle.cabinet_text_reading.specs.declared.head.Counted.{Counted}

-- the container whose word a line begins with, and the bytes after the word
abbrev pub FindsCount : (line : List ℕ) → Option (Counted × Bor (List ℕ)) → Type 0
FindsCount line result =
    MatchOption result ((rest : List ℕ) → HasCount line rest → ⊥) (λ found. line ≡ count_word found.0 ++ found.1.now)

-- the head of an option that has this line, if one has it
abbrev pub ReadsOption : (line : List ℕ) → Option Head → Type 0
ReadsOption line result =
    MatchOption result
    ((line ≢ spelled none_item) × (line ≢ spelled some_item))
    (λ head. IsContainer (item_of head) × (line ≡ spelled (item_of head)))

-- a head that is read is allowed inside `depth` containers, where these are the depths of the complete wholes
abbrev pub AllowsHead : (depths : List ℕ) (depth : ℕ) → Result Head Cause → Type 0
AllowsHead depths depth result =
    (table : List Tree) → AreDepths table depths → IfOk result (λ head. Admits (a_head table depth) (item_of head))

-- a line that is read as no head there is refused for the first cause that applies to it
abbrev pub RefusesHead : (depths : List ℕ) (depth : ℕ) (line : List ℕ) → Result Head Cause → Type 0
RefusesHead depths depth line result =
    (table : List Tree) → AreDepths table depths → IsTable table → IfErr result (IsFaultAt (a_head table depth) (a_line line))

-- memory is refused only for the line of a text
abbrev pub LacksMemoryForText : (line : List ℕ) → Cause → Type 0
LacksMemoryForText line cause = cause ≡ OutOfMemory → (i : Item) × IsTextItem i × (line ≡ spelled i)
