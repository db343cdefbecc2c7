-- What each function ensures, where that is longer than a line.
use denote.Ref.{Bor}
use Rattle.std.specs.Prelude.{◌≡◌, ◌≢◌, ℕ, ◌≤◌, Bool, List, [], ◌∷◌, ◌++◌, length, map, codes, IsTrue, Option, Result, String, Box, IfOk, MatchBool, MatchOption}
use Rattle.std.specs.Bool.{Decides}
use Rattle.std.specs.Option.{option_map}
use Rattle.std.specs.declared.alloc.Global.{Global}
use Rattle.archive_shape_layout.specs.Writing.{WriterMembers, Writes}
use Rattle.archive_shape_layout.specs.declared.error.Error.{Error}
use Rattle.cabinet_text_grammar.specs.Item.{key_item, items, items_of, items_of_pairs, items_of_table}
use Rattle.cabinet_text_grammar.specs.Keys.{MapKind}
use Rattle.cabinet_text_grammar.specs.Path as path
use Rattle.cabinet_text_grammar.specs.Spelling.{spelled, lines_of, ended}
use Rattle.cabinet_text_grammar.specs.Tree as tree
use Rattle.cabinet_text_grammar.specs.Tree.{Tree, IsLegal, AreLegal, most_depth}
use Rattle.cabinet_text_grammar.specs.Wholes.{wholes_of, IsTable, IsDocument}
use Rattle.cabinet_text_nodes.specs.Answers.{Sets}
use Rattle.cabinet_text_nodes.specs.Faults.{wholes_with, HasTwice, IsRefusedTable}
use Rattle.cabinet_text_nodes.specs.View.{node_tree, node_trees, node_pairs, table_of, known_below, all_known, lent_leaf, step_of, path_of}
use Rattle.cabinet_text_nodes.specs.declared.answer.EditAnswer.{EditAnswer}
use Rattle.cabinet_text_nodes.specs.declared.leaf.LeafRef.{LeafRef}
use Rattle.cabinet_text_nodes.specs.declared.line.Step.{Step}
use Rattle.cabinet_text_nodes.specs.declared.node.Node.{Node}
use Rattle.cabinet_text_nodes.specs.declared.node.Node.TheVariants as node
use Rattle.cabinet_text_nodes.specs.declared.refusal.DocumentRefusal.{DocumentRefusal}

-- ---- finding

-- the leaf that a node is, if it is one
abbrev pub GivesLeaf : Node → Option LeafRef → Type 0
GivesLeaf n result =
    (table : List Tree) → MatchOption result ((l : tree.Leaf) → node_tree table n ≢ tree.leaf l) (λ l. node_tree table n ≡ tree.leaf (lent_leaf l))

-- the node of a key among pairs, if one of them has it
abbrev pub FindsValue : (pairs : List (String Global × Node)) (key : List ℕ) → Option (Bor Node) → Type 0
FindsValue pairs key result =
    (table : List Tree) → option_map (λ node. node_tree table node.now) result ≡ path.node_by (node_pairs table pairs) key []

-- the node that a path leads to from a tree under a table, if it leads to one
abbrev pub FindsNode : (table : List Tree) (from : Tree) → List path.Step → Option (Bor Node) → Type 0
FindsNode table from steps result = option_map (λ node. node_tree table node.now) result ≡ path.node_at from steps

-- the same from a node of a document that has these wholes
abbrev pub FindsFrom : (wholes : List Node) (from : Node) → List path.Step → Option (Bor Node) → Type 0
FindsFrom wholes from steps result =
    IsTable (table_of wholes) → IsLegal (node_tree (table_of wholes) from)
    → FindsNode (table_of wholes) (node_tree (table_of wholes) from) steps result

-- ---- setting

-- a leaf is put in the place of a node
abbrev pub PutsLeaf : (old : Node) → LeafRef → EditAnswer → (new : Node) → Type 0
PutsLeaf old leaf result new = (table : List Tree) → Sets (node_tree table old) [] (lent_leaf leaf) result (node_tree table new)

-- a leaf is set at a path of a tree, in a document that has these wholes
abbrev pub SetsIn : (wholes : List Node) (old : Tree) → List path.Step → LeafRef → EditAnswer → (new : Tree) → Type 0
SetsIn wholes old steps leaf result new = IsTable (table_of wholes) → IsLegal old → Sets old steps (lent_leaf leaf) result new

-- the same at a path of a node
abbrev pub SetsInNode : (wholes : List Node) (old : Node) → List Step → LeafRef → EditAnswer → (new : Node) → Type 0
SetsInNode wholes old steps leaf result new =
    SetsIn wholes (node_tree (table_of wholes) old) (path_of steps) leaf result (node_tree (table_of wholes) new)

-- at a path of an option, by its first step and the rest
abbrev pub SetsInOption : (wholes : List Node) (old : Option (Box Node Global)) → Step → List Step → LeafRef → EditAnswer
    → (new : Option (Box Node Global)) → Type 0
SetsInOption wholes old step rest leaf result new =
    SetsIn wholes (node_tree (table_of wholes) (node.Maybe old)) (step_of step ∷ path_of rest) leaf result
    (node_tree (table_of wholes) (node.Maybe new))

-- at a path of a list
abbrev pub SetsInList : (wholes old : List Node) → Step → List Step → LeafRef → EditAnswer → (new : List Node) → Type 0
SetsInList wholes old step rest leaf result new =
    SetsIn wholes (tree.list (node_trees (table_of wholes) old)) (step_of step ∷ path_of rest) leaf result
    (tree.list (node_trees (table_of wholes) new))

-- at a path of a map of some kind
abbrev pub SetsInMap : MapKind → (wholes : List Node) (old : List (String Global × Node)) → Step → List Step → LeafRef → EditAnswer
    → (new : List (String Global × Node)) → Type 0
SetsInMap kind wholes old step rest leaf result new =
    SetsIn wholes (tree.map kind (node_pairs (table_of wholes) old)) (step_of step ∷ path_of rest) leaf result
    (tree.map kind (node_pairs (table_of wholes) new))

-- at a path of a map, whichever its kind is
abbrev pub SetsInAnyMap : (wholes : List Node) (old : List (String Global × Node)) → Step → List Step → LeafRef → EditAnswer
    → (new : List (String Global × Node)) → Type 0
SetsInAnyMap wholes old step rest leaf result new = (kind : MapKind) → SetsInMap kind wholes old step rest leaf result new

-- no leaf is set at a path of a whole
abbrev pub SetsNoneIn : (wholes : List Node) (number : ℕ) → Step → List Step → EditAnswer → Type 0
SetsNoneIn wholes number step rest result =
    IsTable (table_of wholes) → IsLegal (node_tree (table_of wholes) (node.Whole number))
    → (l : tree.Leaf) → Sets (node_tree (table_of wholes) (node.Whole number)) (step_of step ∷ path_of rest) l result
    (node_tree (table_of wholes) (node.Whole number))

-- ---- checking

-- the wholes of a root are those of the nodes, in their order
abbrev pub HasWholes : (wholes : List Node) (root : Node) → Type 0
HasWholes wholes root = wholes_of (node_tree (table_of wholes) root) ≡ table_of wholes

-- whether they are
abbrev pub TellsOrder : (wholes : List Node) (root : Node) → Bool → Type 0
TellsOrder wholes root result = IsTable (table_of wholes) → IsLegal (node_tree (table_of wholes) root) → Decides result (HasWholes wholes root)

-- whether two of the wholes have the same tree
abbrev pub FindsTwice : (wholes : List Node) → Result Bool Error → Type 0
FindsTwice wholes result =
    AreLegal (wholes_with (table_of wholes)) → most_depth (wholes_with (table_of wholes)) ≤ 64
    → IfOk result (λ repeats. MatchBool repeats (HasTwice (table_of wholes)) (IsTable (table_of wholes)))

-- the reason for which a root and the nodes of its wholes are no document, if there is one
abbrev pub ChecksTable : (wholes : List Node) (root : Node) → Option DocumentRefusal → Type 0
ChecksTable wholes root result =
    MatchOption result (IsDocument (node_tree (table_of wholes) root) × HasWholes wholes root) (IsRefusedTable wholes root)

-- ---- writing

-- under each table that has the numbers of some nodes, these bytes are written
abbrev pub WritesUnder : {W A : Type 0} → WriterMembers W → (early late : W) (known : ℕ → Bool) (written : List Tree → List ℕ)
    → Result A Error → Type 0
WritesUnder w early late known written result =
    (table : List Tree) → IsTable table → IsTrue (known (length table)) → Writes w early late (written table) result

-- the lines of a node are written
abbrev pub WritesNode : {W A : Type 0} → WriterMembers W → (early late : W) → Node → Result A Error → Type 0
WritesNode w early late n result =
    WritesUnder w early late (λ k. known_below k n) (λ table. ended (lines_of (items table (node_tree table n)))) result

-- those of several nodes
abbrev pub WritesNodes : {W A : Type 0} → WriterMembers W → (early late : W) → List Node → Result A Error → Type 0
WritesNodes w early late ns result =
    WritesUnder w early late (λ k. all_known k ns) (λ table. ended (lines_of (items_of table (node_trees table ns)))) result

-- the line of a key, and after it those of the key's node
abbrev pub WritesPair : {W A : Type 0} → WriterMembers W → (early late : W) (key : List ℕ) → Node → Result A Error → Type 0
WritesPair w early late key n result =
    WritesUnder w early late (λ k. known_below k n)
    (λ table. (spelled (key_item key) ++ codes "\n") ++ ended (lines_of (items table (node_tree table n)))) result

-- those of the pairs of a map
abbrev pub WritesPairs : {W A : Type 0} → WriterMembers W → (early late : W) → List (String Global × Node) → Result A Error → Type 0
WritesPairs w early late pairs result =
    WritesUnder w early late (λ k. all_known k (map (λ p. p.1) pairs))
    (λ table. ended (lines_of (items_of_pairs table (node_pairs table pairs)))) result

-- the lines of the trees of wholes that are a table are written
abbrev pub WritesWholes : {W A : Type 0} → WriterMembers W → (early late : W) (wholes : List Node) → Result A Error → Type 0
WritesWholes w early late wholes result =
    IsTable (table_of wholes) → Writes w early late (ended (lines_of (items_of_table (table_of wholes)))) result
