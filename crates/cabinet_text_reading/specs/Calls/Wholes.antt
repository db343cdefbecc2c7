use Rattle.std.specs.Prelude.{◌≡◌, ℕ, ◌-◌, ◌<◌, ◌≤◌, ◌^◌, Bool, not, List, [], ◌∷◌, length, Option, Result, IfOk, IfErr}
use Rattle.std.specs.Bool.{Decides}
use Rattle.cabinet_text_grammar.specs.Completing.{text_in}
use Rattle.cabinet_text_grammar.specs.Due.{Admits}
use Rattle.cabinet_text_grammar.specs.Frame.{AreOpen}
use Rattle.cabinet_text_grammar.specs.Item.{Item}
use Rattle.cabinet_text_grammar.specs.Machine.{complete, step}
use Rattle.cabinet_text_grammar.specs.Reading.{due_at, IsNew}
use Rattle.cabinet_text_grammar.specs.Spelling.{spelled}
use Rattle.cabinet_text_grammar.specs.Tree.{Tree, depth, IsLegal}
use Rattle.cabinet_text_grammar.specs.Wholes.{has, wholes_of, IsNumbered, IsTable}
use Rattle.cabinet_text_grammar.specs.declared.cause.Cause.{Cause}
use Rattle.cabinet_text_nodes.specs.View.{table_of}
use Rattle.cabinet_text_nodes.specs.declared.node.Node.{Node}
use Rattle.cabinet_text_reading.specs.View.{stack_of}
use Rattle.cabinet_text_reading.specs.Wholes.{table_in, tree_in, reading_of, reading_in, number_of, AreKnown, IsAtLine, RefusesTree}
use Rattle.cabinet_text_reading.specs.declared.stack.frame.Frame.{Frame}
use Rattle.cabinet_text_reading.specs.declared.wholes.Wholes.{Wholes}

-- whether no whole that is complete has the tree of these lines
abbrev pub TellsNew : Wholes → (lines : List ℕ) → Bool → Type 0
TellsNew w lines result =
    (t : Tree) → AreKnown w → length (table_in w) < 2 ^ 64 → IsTable (table_in w) → IsLegal t → IsNumbered (table_in w) t
    → lines ≡ text_in (table_in w) t → result ≡ not (has (table_in w) t)

-- one more whole is complete, and nothing of the next tree is read
abbrev pub AddsWhole : (old : Wholes) → Node → (new : Wholes) → Type 0
AddsWhole old n new =
    reading_of new [] ≡ record { lacking = old.lacking - 1; table = tree_in old n ∷ table_in old; stack = [] }

-- the depth and the lines of its tree are known too
abbrev pub KnowsAdded : {E : Type 0} → (old : Wholes) → Node → (lines : List ℕ) → Result (Unit {0}) E → (new : Wholes) → Type 0
KnowsAdded old n lines result new =
    AreKnown old → IsLegal (tree_in old n) → depth (tree_in old n) ≤ 64 → lines ≡ text_in (table_in old) (tree_in old n)
    → IfOk result (λ _. AreKnown new)

-- whether the wholes of a root that one more item completes are those that were read, in their order
abbrev pub TellsRootOrder : (wholes : List Node) → List Frame → (number : Option ℕ) → Bool → Type 0
TellsRootOrder wholes fs number result =
    (i : Item) (t : Tree) → number ≡ number_of i → step (table_of wholes) (stack_of (table_of wholes) fs) i ≡ complete t
    → IsTable (table_of wholes) → (around : ℕ) → AreOpen (table_of wholes) around (stack_of (table_of wholes) fs)
    → Decides result (wholes_of t ≡ table_of wholes)

-- a tree that an item completes is that of the next whole, or of the document, or it is refused
abbrev pub ChecksTree : Wholes → List Frame → (number : Option ℕ) (lines : List ℕ) → Result (Unit {0}) Cause → Type 0
ChecksTree w fs number lines result =
    (i : Item) (t : Tree) → number ≡ number_of i → IsAtLine w (stack_of (table_in w) fs) (spelled i) lines
    → Admits (due_at (reading_in w fs)) i → step (table_in w) (stack_of (table_in w) fs) i ≡ complete t
    → IfOk result (λ _. IsNew w.lacking (table_in w) t) × IfErr result (RefusesTree w.lacking (table_in w) t)
