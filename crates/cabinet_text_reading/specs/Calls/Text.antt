use Rattle.std.specs.Prelude.{◌≡◌, ◌≢◌, ℕ, ◌<◌, ◌++◌, ◌∷◌, List, codes, Result, Vec, IfOk, IfErr}
use Rattle.std.specs.declared.alloc.Global.{Global}
use Rattle.cabinet_text_grammar.specs.Fault.{HasDueCause, FirstFault}
use Rattle.cabinet_text_grammar.specs.Frame as spec
use Rattle.cabinet_text_grammar.specs.Item.{Item, wholes_item}
use Rattle.cabinet_text_grammar.specs.Machine.{State, going}
use Rattle.cabinet_text_grammar.specs.Reading.{due_at, onward}
use Rattle.cabinet_text_grammar.specs.Spelling.{spelled, text_of}
use Rattle.cabinet_text_grammar.specs.Steps.{TakesLine}
use Rattle.cabinet_text_grammar.specs.declared.cause.Cause.{Cause}
use Rattle.cabinet_text_grammar.specs.declared.cause.Cause.TheVariants.{OutOfMemory}
use Rattle.cabinet_text_nodes.specs.declared.node.Node.{Node}
use Rattle.cabinet_text_reading.specs.Calls.Heads.{LacksMemoryForText}
use Rattle.cabinet_text_reading.specs.Causes.{a_line, IsFaultAt, IsFaultAfter}
use Rattle.cabinet_text_reading.specs.Heads.{IsTextItem}
use Rattle.cabinet_text_reading.specs.View.{stack_of, inside_map, open_at, state_of}
use Rattle.cabinet_text_reading.specs.Wholes.{table_in, tree_in, reading_of, reading_in, IsAtLine}
use Rattle.cabinet_text_reading.specs.declared.stack.due.Due.{Due}
use Rattle.cabinet_text_reading.specs.declared.stack.due.Next.{Next}
use Rattle.cabinet_text_reading.specs.declared.stack.frame.Frame.{Frame}
use Rattle.cabinet_text_reading.specs.declared.stack.frame.OpenMap.{OpenMap}
use Rattle.cabinet_text_reading.specs.declared.text.TextRefusal.{TextRefusal}
use Rattle.cabinet_text_reading.specs.declared.wholes.Wholes.{Wholes}

-- ---- lines of a tree. `lines` are those of the tree up to the one that is taken in, which is the last

-- the fault of the line of a text for which memory was refused
abbrev pub TellsTextFault : Wholes → List Frame → (lines : List ℕ) → Cause → Type 0
TellsTextFault w fs lines result =
    (i : Item) → IsTextItem i → IsAtLine w (stack_of (table_in w) fs) (spelled i) lines
    → HasDueCause (due_at (reading_in w fs)) (a_line (spelled i)) OutOfMemory → IsFaultAfter (reading_in w fs) (spelled i) result

-- the fault of the line of a head that was not read for this cause
abbrev pub TellsHeadFault : Cause → Wholes → List Frame → (lines : List ℕ) → Cause → Type 0
TellsHeadFault cause w fs lines result =
    (line : List ℕ) → IsAtLine w (stack_of (table_in w) fs) line lines
    → IsFaultAt (due_at (reading_in w fs)) (a_line line) cause → LacksMemoryForText line cause
    → IsFaultAfter (reading_in w fs) line result

-- a line is taken in where these containers are open, and leads on to this state
abbrev pub LeadsOn : Wholes → List spec.Frame → (line : List ℕ) → State → Type 0
LeadsOn w fs line after = TakesLine (reading_of w fs) line (onward w.lacking (table_in w) after)

-- a line is taken in, or refused, where these containers are open
abbrev pub TakesAt : Wholes → List spec.Frame → (line lines : List ℕ) → Result Next Cause → (new : Vec Frame Global) → Type 0
TakesAt w fs line lines result new =
    IsAtLine w fs line lines → IfOk result (λ next. LeadsOn w fs line (state_of (table_in w) next new.items))

abbrev pub RefusesAt : Wholes → List spec.Frame → (line lines : List ℕ) → Result Next Cause → Type 0
RefusesAt w fs line lines result = IsAtLine w fs line lines → IfErr result (IsFaultAfter (reading_of w fs) line)

-- the line of a head is taken in, or refused
abbrev pub TakesHeadLine : Wholes → (old : Vec Frame Global) (line lines : List ℕ) → Result Next Cause → (new : Vec Frame Global) → Type 0
TakesHeadLine w old line lines result new = TakesAt w (stack_of (table_in w) old.items) line lines result new

abbrev pub RefusesHeadLine : Wholes → (old : Vec Frame Global) (line lines : List ℕ) → Result Next Cause → Type 0
RefusesHeadLine w old line lines result = RefusesAt w (stack_of (table_in w) old.items) line lines result

-- the line of a key of a map is taken in, or refused for this cause
abbrev pub TakesKeyLine : Wholes → OpenMap → (old : Vec Frame Global) (line : List ℕ) (new : Vec Frame Global) → Type 0
TakesKeyLine w m old line new = LeadsOn w (inside_map (table_in w) m old.items) line (going (stack_of (table_in w) new.items))

abbrev pub RefusesKeyLine : Wholes → OpenMap → (old : Vec Frame Global) (line : List ℕ) → Cause → Type 0
RefusesKeyLine w m old line = IsFaultAfter (reading_of w (inside_map (table_in w) m old.items)) line

-- the line that is expected is taken in, or refused
abbrev pub TakesDueLine : Wholes → Due → (old : Vec Frame Global) (line lines : List ℕ) → Result Next Cause → (new : Vec Frame Global)
    → Type 0
TakesDueLine w due old line lines result new = TakesAt w (open_at (table_in w) due old.items) line lines result new

abbrev pub RefusesDueLine : Wholes → Due → (old : Vec Frame Global) (line lines : List ℕ) → Result Next Cause → Type 0
RefusesDueLine w due old line lines result = RefusesAt w (open_at (table_in w) due old.items) line lines result

-- ---- whole texts

-- where there are no wholes, no line before the lines `rest` tells their number; where there are some, one does
abbrev pub BeginsWithoutCount : (text : List ℕ) (count : ℕ) (rest : List ℕ) → Type 0
BeginsWithoutCount text count rest = count ≡ 0 → (rest ≡ text) × ((more : List ℕ) → text ≢ codes "wholes " ++ more)

abbrev pub BeginsWithCount : (text : List ℕ) (count : ℕ) (rest : List ℕ) → Type 0
BeginsWithCount text count rest = 0 < count → text ≡ spelled (wholes_item count) ++ 10 ∷ rest

-- the text of the document of a root, and what is after it
abbrev pub text_and_rest : Wholes → (root : Node) (rest : List ℕ) → List ℕ
text_and_rest w root rest = text_of (tree_in w root) ++ rest

-- the first faulty line of a text, and its first cause
abbrev pub IsFirstFaultOf : (text : List ℕ) → TextRefusal → Type 0
IsFirstFaultOf text refusal = FirstFault text refusal.line refusal.cause
