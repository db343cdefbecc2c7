-- What edits that add, replace and remove nodes leave, by their answers.
use Rattle.std.specs.Prelude.{◌≡◌, ◌≢◌, ◌≤◌, ◌<◌, ⊤, ℕ, ◌+◌, ◌^◌, Bool, IsTrue, if◌then◌else◌, nat_le, List, [], ◌∷◌, Result, MatchResult, String, Option, Box}
use Rattle.std.specs.declared.alloc.AllocError.{AllocError}
use Rattle.std.specs.declared.alloc.Global.{Global}
use Rattle.cabinet_text_grammar.specs.Keys.{MapKind, kept}
use Rattle.cabinet_text_grammar.specs.Path as path
use Rattle.cabinet_text_grammar.specs.Tree as tree
use Rattle.cabinet_text_grammar.specs.Tree.{Tree, IsLegal, ArePairs, count, pair_count, depth}
use Rattle.cabinet_text_grammar.specs.Wholes.{IsTable}
use Rattle.cabinet_text_grammar.specs.Restructuring.{Edited, edited, missing, refused, in_place_of, put_element, put_pair, put_step, insert_element, insert_step, remove_element, remove_pair, remove_step, at_last}
use Rattle.cabinet_text_grammar.specs.RestructuringLaws.{IsCounted}
use Rattle.cabinet_text_nodes.specs.View.{node_tree, node_trees, node_pairs, table_of, known_below}
use Rattle.cabinet_text_nodes.specs.declared.answer.EditAnswer.{EditAnswer}
use Rattle.cabinet_text_nodes.specs.declared.answer.EditAnswer.TheVariants.{Done, Missing, Refused}
use Rattle.cabinet_text_nodes.specs.declared.node.Node.{Node}
use Rattle.cabinet_text_nodes.specs.declared.node.Node.TheVariants as node
use Rattle.cabinet_text_nodes.specs.declared.restructuring.walking.Edit.{Edit}
use Rattle.cabinet_text_nodes.specs.declared.restructuring.walking.Edit.TheVariants as edit

-- an answer, and what is there after it
abbrev pub Becomes : {A : Type 0} → Edited A → EditAnswer → (old new : A) → Type 0
Becomes (edited x) Done old new = new ≡ x
Becomes missing Missing old new = new ≡ old
Becomes refused Refused old new = new ≡ old
Becomes _ _ old new = ⊥

-- without memory nothing changes
abbrev pub BecomesOrStays : {A : Type 0} → Edited A → Result EditAnswer AllocError → (old new : A) → Type 0
BecomesOrStays e result old new = MatchResult result (λ answer. Becomes e answer old new) (λ _. new ≡ old)

-- what is there after an edit is within a limit, or the edit is refused
abbrev pub limited_by : {A : Type 0} → (A → Bool) → Edited A → Edited A
limited_by fits (edited x) = if fits x then edited x else refused
limited_by fits missing = missing
limited_by fits refused = refused

-- a place is there, but what is new does not fit
abbrev pub if_fits : {A : Type 0} → Bool → Edited A → Edited A
if_fits fits = limited_by (λ _. fits)

-- inside so many containers, at most 64 are in one another
abbrev pub limited : ℕ → Edited Tree → Edited Tree
limited outer = limited_by (λ u. nat_le (outer + depth u) 64)

-- ---- a node, a part of a container or a container, in a document that has these wholes

-- the trees of nodes are legal under the table of the wholes
abbrev pub UnderWholes : List Node → (List Tree → Type 0) → Type 0
UnderWholes wholes is = IsTable (table_of wholes) → is (table_of wholes)

abbrev pub PutsContent : (wholes : List Node) (old new : Option (Box Node Global)) (put : Node) (fits : Bool) → Result EditAnswer AllocError → Type 0
PutsContent wholes old new put fits result =
    UnderWholes wholes (λ table. IsLegal (node_tree table (node.Maybe old))
    → BecomesOrStays (if_fits fits (put_step (node_tree table (node.Maybe old)) path.inside (node_tree table put))) result
    (node_tree table (node.Maybe old)) (node_tree table (node.Maybe new)))

abbrev pub PutsElement : (wholes old new : List Node) (place : ℕ) (put : Node) (fits : Bool) → Result EditAnswer AllocError → Type 0
PutsElement wholes old new place put fits result =
    UnderWholes wholes (λ table. tree.AreLegal (node_trees table old)
    → BecomesOrStays (if_fits fits (put_element (node_trees table old) place (node_tree table put))) result (node_trees table old)
    (node_trees table new))

-- a pair of a map of some kind
abbrev pub PutsPair : MapKind → (wholes : List Node) (old new : List (String Global × Node)) (key : List ℕ) (put : Node) (fits : Bool)
    → Result EditAnswer AllocError → Type 0
PutsPair kind wholes old new key put fits result =
    UnderWholes wholes (λ table. ArePairs kind [] (node_pairs table old)
    → BecomesOrStays (if_fits fits (put_pair kind (node_pairs table old) key (node_tree table put))) result (node_pairs table old)
    (node_pairs table new))

-- of a map whose keys ascend
abbrev pub PutsValue : (wholes : List Node) (old new : List (String Global × Node)) (key : List ℕ) (put : Node) (fits : Bool)
    → Result EditAnswer AllocError → Type 0
PutsValue wholes old new key put fits result = (kind : MapKind) → kind ≢ kept → PutsPair kind wholes old new key put fits result

abbrev pub PutsStep : (wholes : List Node) (old new : Node) (step : path.Step) (put : Node) (fits : Bool) → Result EditAnswer AllocError → Type 0
PutsStep wholes old new step put fits result =
    UnderWholes wholes (λ table. IsLegal (node_tree table old)
    → BecomesOrStays (if_fits fits (put_step (node_tree table old) step (node_tree table put))) result (node_tree table old) (node_tree table new))

-- the elements or pairs of a container are counted in 64 bits
abbrev pub IsCountedHere : Tree → Type 0
IsCountedHere (tree.list ts) = count ts < 2 ^ 64
IsCountedHere (tree.map kind ps) = pair_count ps < 2 ^ 64
IsCountedHere _ = ⊤

-- and are so still
abbrev pub StaysCounted : (old new : Node) → Type 0
StaysCounted old new = (table : List Tree) → IsCountedHere (node_tree table old) → IsCountedHere (node_tree table new)

abbrev pub InsertsElement : (old new : List Node) (place : ℕ) (put : Node) (fits : Bool) → Result EditAnswer AllocError → Type 0
InsertsElement old new place put fits result =
    (table : List Tree) → BecomesOrStays (if_fits fits (insert_element (node_trees table old) place (node_tree table put))) result
    (node_trees table old) (node_trees table new)

abbrev pub InsertsStep : (table : List Tree) (old new : Node) (step : path.Step) (put : Node) (fits : Bool) → Result EditAnswer AllocError → Type 0
InsertsStep table old new step put fits result =
    BecomesOrStays (if_fits fits (insert_step (node_tree table old) step (node_tree table put))) result (node_tree table old) (node_tree table new)

abbrev pub RemovesContent : (wholes : List Node) (old new : Option (Box Node Global)) → EditAnswer → Type 0
RemovesContent wholes old new result =
    UnderWholes wholes (λ table. IsLegal (node_tree table (node.Maybe old))
    → Becomes (remove_step (node_tree table (node.Maybe old)) path.inside) result (node_tree table (node.Maybe old))
    (node_tree table (node.Maybe new)))

abbrev pub RemovesElement : (wholes old new : List Node) (place : ℕ) → EditAnswer → Type 0
RemovesElement wholes old new place result =
    UnderWholes wholes (λ table. tree.AreLegal (node_trees table old)
    → Becomes (remove_element (node_trees table old) place) result (node_trees table old) (node_trees table new))

abbrev pub RemovesPair : MapKind → (wholes : List Node) (old new : List (String Global × Node)) (key : List ℕ) → EditAnswer → Type 0
RemovesPair kind wholes old new key result =
    UnderWholes wholes (λ table. ArePairs kind [] (node_pairs table old)
    → Becomes (remove_pair (node_pairs table old) key) result (node_pairs table old) (node_pairs table new))

abbrev pub RemovesValue : (wholes : List Node) (old new : List (String Global × Node)) (key : List ℕ) → EditAnswer → Type 0
RemovesValue wholes old new key result = (kind : MapKind) → kind ≢ kept → RemovesPair kind wholes old new key result

abbrev pub RemovesStep : (wholes : List Node) (old new : Node) (step : path.Step) → EditAnswer → Type 0
RemovesStep wholes old new step result =
    UnderWholes wholes (λ table. IsLegal (node_tree table old)
    → Becomes (remove_step (node_tree table old) step) result (node_tree table old) (node_tree table new))

-- ---- edits

-- what an edit makes of a container
abbrev pub edit_of : List Tree → Edit → Tree → path.Step → Edited Tree
edit_of table (edit.Put alloc n) t step = put_step t step (node_tree table n)
edit_of table (edit.Insert n) t step = insert_step t step (node_tree table n)
edit_of table edit.Remove t step = remove_step t step

-- a new node has no wholes, and is not too deep to be counted
abbrev pub IsNew : Node → Type 0
IsNew n = IsTrue (known_below 0 n) × (depth (node_tree [] n) ≤ 64)

-- and is legal
abbrev pub IsLegalNew : Node → Type 0
IsLegalNew n = IsNew n × IsLegal (node_tree [] n)

-- a new node is the root of a document without wholes, which has the document's tree under each table
abbrev pub IsRootAlone : Tree → Node → Type 0
IsRootAlone t n = IsLegalNew n × ((table : List Tree) → node_tree table n ≡ t)

abbrev pub HasNew : Edit → Type 0
HasNew (edit.Put alloc n) = IsNew n
HasNew (edit.Insert n) = IsNew n
HasNew edit.Remove = ⊤

abbrev pub HasLegalNew : Edit → Type 0
HasLegalNew (edit.Put alloc n) = IsLegalNew n
HasLegalNew (edit.Insert n) = IsLegalNew n
HasLegalNew edit.Remove = ⊤

-- where a node is removed, no allocation can fail
abbrev pub TakesMemory : Edit → Type 0
TakesMemory (edit.Put alloc n) = ⊤
TakesMemory (edit.Insert n) = ⊤
TakesMemory edit.Remove = ⊥

-- an edit by one step of a node inside so many containers, or by the last step of a path
abbrev pub EditsContainer : (wholes : List Node) (outer : ℕ) (old new : Node) (step : path.Step) → Edit → Result EditAnswer AllocError → Type 0
EditsContainer wholes outer old new step by result =
    UnderWholes wholes (λ table. IsLegal (node_tree table old) → outer + depth (node_tree table old) ≤ 64 → HasNew by
    → BecomesOrStays (limited outer (edit_of table by (node_tree table old) step)) result (node_tree table old) (node_tree table new))

-- an edit at the last step of a path from a tree, which the wholes tell
abbrev pub EditsTree : (wholes : List Node) (outer : ℕ) (old new : List Tree → Tree) (steps : path.Step × List path.Step) → Edit
    → Result EditAnswer AllocError → Type 0
EditsTree wholes outer old new steps by result =
    UnderWholes wholes (λ table. IsLegal (old table) → outer + depth (old table) ≤ 64 → HasNew by
    → BecomesOrStays (limited outer (at_last (edit_of table by) (old table) steps.0 steps.1)) result (old table) (new table))

abbrev pub EditsNode : (wholes : List Node) (outer : ℕ) (old new : Node) (step : path.Step) (rest : List path.Step) → Edit
    → Result EditAnswer AllocError → Type 0
EditsNode wholes outer old new step rest = EditsTree wholes outer (λ table. node_tree table old) (λ table. node_tree table new) (step, rest)

-- elements and pairs are counted in 64 bits after an edit that may add some
abbrev pub CountsTree : (wholes : List Node) (old new : List Tree → Tree) → Edit → Type 0
CountsTree wholes old new by = UnderWholes wholes (λ table. IsLegal (old table) → HasLegalNew by → TakesMemory by → IsCounted (new table))

abbrev pub CountsNode : (wholes : List Node) (old new : Node) → Edit → Type 0
CountsNode wholes old new = CountsTree wholes (λ table. node_tree table old) (λ table. node_tree table new)

abbrev pub CountsElements : (wholes old new : List Node) → Edit → Type 0
CountsElements wholes old new = CountsTree wholes (λ table. tree.list (node_trees table old)) (λ table. tree.list (node_trees table new))

abbrev pub CountsPairs : MapKind → (wholes : List Node) (old new : List (String Global × Node)) → Edit → Type 0
CountsPairs kind wholes old new = CountsTree wholes (λ table. tree.map kind (node_pairs table old)) (λ table. tree.map kind (node_pairs table new))

-- a node in the place of the root
abbrev pub ReplacesRoot : (wholes : List Node) (old new put : Node) → EditAnswer → Type 0
ReplacesRoot wholes old new put result =
    UnderWholes wholes (λ table. IsLegal (node_tree table old) → IsNew put
    → Becomes (limited 0 (in_place_of (node_tree table old) (node_tree table put))) result (node_tree table old) (node_tree table new))

-- inside an option
abbrev pub EditsContent : (wholes : List Node) (outer : ℕ) (old new : Option (Box Node Global)) (step next : path.Step) (rest : List path.Step)
    → Edit → Result EditAnswer AllocError → Type 0
EditsContent wholes outer old new step next rest = EditsNode wholes outer (node.Maybe old) (node.Maybe new) step (next ∷ rest)

-- inside an element of a list
abbrev pub EditsElement : (wholes : List Node) (outer : ℕ) (old new : List Node) (step next : path.Step) (rest : List path.Step) → Edit
    → Result EditAnswer AllocError → Type 0
EditsElement wholes outer old new step next rest =
    EditsTree wholes outer (λ table. tree.list (node_trees table old)) (λ table. tree.list (node_trees table new)) (step, next ∷ rest)

-- inside the node of a key of a map of some kind
abbrev pub EditsPair : MapKind → (wholes : List Node) (outer : ℕ) (old new : List (String Global × Node)) (step next : path.Step)
    (rest : List path.Step) → Edit → Result EditAnswer AllocError → Type 0
EditsPair kind wholes outer old new step next rest =
    EditsTree wholes outer (λ table. tree.map kind (node_pairs table old)) (λ table. tree.map kind (node_pairs table new)) (step, next ∷ rest)

abbrev pub EditsAnyPair : (wholes : List Node) (outer : ℕ) (old new : List (String Global × Node)) (step next : path.Step) (rest : List path.Step)
    → Edit → Result EditAnswer AllocError → Type 0
EditsAnyPair wholes outer old new step next rest by result = (kind : MapKind) → EditsPair kind wholes outer old new step next rest by result
