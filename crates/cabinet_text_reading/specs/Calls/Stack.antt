use Rattle.std.specs.Prelude.{◌≡◌, ℕ, ◌++◌, ◌∷◌, [], List, Bool, Result, Vec, string_bytes, IfOk}
use Rattle.std.specs.Bool.{Decides}
use Rattle.std.specs.declared.alloc.Global.{Global}
use Rattle.cabinet_text_grammar.specs.Due.{AdmitsHead, Admits}
use Rattle.cabinet_text_grammar.specs.Frame.{AreOpen}
use Rattle.cabinet_text_grammar.specs.Item.{Item, key_item}
use Rattle.cabinet_text_grammar.specs.Machine.{going, complete, plug, step}
use Rattle.cabinet_text_grammar.specs.Spelling.{escaped}
use Rattle.cabinet_text_grammar.specs.Tree.{Tree, map}
use Rattle.cabinet_text_nodes.specs.View.{node_tree, node_pairs, item_of}
use Rattle.cabinet_text_nodes.specs.declared.head.Head.{Head}
use Rattle.cabinet_text_nodes.specs.declared.node.Node.{Node}
use Rattle.cabinet_text_reading.specs.View.{kind_of, entries_of, key_due, keyed_entries, key_of, stack_of, inside_map, state_of}
use Rattle.cabinet_text_reading.specs.declared.stack.due.Next.{Next}
use Rattle.cabinet_text_reading.specs.declared.stack.frame.Frame.{Frame}
use Rattle.cabinet_text_reading.specs.declared.stack.frame.OpenMap.{OpenMap}
use Rattle.cabinet_text_reading.specs.declared.stack.keyed.Keyed.{Keyed}
use Rattle.cabinet_text_reading.specs.declared.stack.pairs.Pairs.{Pairs}

-- ---- pairs

-- the key that expects a node is allowed after those of some pairs
abbrev pub AllowsKey : Pairs → Keyed → Type 0
AllowsKey ps keyed = Admits (key_due ps) (key_item (string_bytes (key_of keyed)))

-- the key and its node are one more pair after the others
abbrev pub AddsPair : {E : Type 0} → Keyed → Node → Result Pairs E → Type 0
AddsPair keyed node result = IfOk result (λ pairs. entries_of pairs ≡ keyed_entries keyed ++ (key_of keyed, node) ∷ [])

-- the node is the map of exactly these pairs
abbrev pub IsMapOf : Pairs → Node → Type 0
IsMapOf ps result = (table : List Tree) → node_tree table result ≡ map (kind_of ps) (node_pairs table (entries_of ps))

-- ---- heads and keys, taken into the innermost container

-- whether a head that is allowed completes the tree that is read
abbrev pub TellsComplete : Head → List Frame → Bool → Type 0
TellsComplete head fs result =
    (table : List Tree) (depth : ℕ) → AdmitsHead table depth (item_of head)
    → Decides result ((t : Tree) × (step table (stack_of table fs) (item_of head) ≡ complete t))

-- a complete node goes into the innermost container
abbrev pub PutsIn : {E : Type 0} → Node → (old : Vec Frame Global) → Result Next E → (new : Vec Frame Global) → Type 0
PutsIn node old result new =
    (table : List Tree) (around : ℕ) → AreOpen table around (stack_of table old.items)
    → IfOk result (λ next. state_of table next new.items ≡ plug (node_tree table node) (stack_of table old.items))

-- one more item under a table
abbrev pub TakesUnder : {E : Type 0} → List Tree → Item → (old : Vec Frame Global) → Result Next E → (new : Vec Frame Global) → Type 0
TakesUnder table i old result new = IfOk result (λ next. state_of table next new.items ≡ step table (stack_of table old.items) i)

-- one more item, where containers are open
abbrev pub TakesItem : {E : Type 0} → Item → (old : Vec Frame Global) → Result Next E → (new : Vec Frame Global) → Type 0
TakesItem i old result new =
    (table : List Tree) (around : ℕ) → AreOpen table around (stack_of table old.items) → TakesUnder table i old result new

-- a head that is allowed there
abbrev pub TakesHead : {E : Type 0} → Head → (old : Vec Frame Global) → Result Next E → (new : Vec Frame Global) → Type 0
TakesHead head old result new =
    (table : List Tree) (around depth : ℕ) → AreOpen table around (stack_of table old.items) → AdmitsHead table depth (item_of head)
    → TakesUnder table (item_of head) old result new

-- a key that is allowed after those of a map, by its escaped form
abbrev pub TakesKey : OpenMap → (argument : List ℕ) (old new : Vec Frame Global) → Type 0
TakesKey m argument old new =
    (k : List ℕ) × (argument ≡ escaped k) × Admits (key_due m.pairs) (key_item k)
    × ((table : List Tree) → going (stack_of table new.items) ≡ step table (inside_map table m old.items) (key_item k))
