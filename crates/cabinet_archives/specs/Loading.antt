-- The trees that are loaded, and the texts and the wholes that are kept meanwhile.
use Rattle.std.specs.Prelude.{◌≡◌, ⊤, ℕ, ◌+◌, ◌≤◌, List, [], ◌∷◌, All, String, Option, IfSome, Some}
use Rattle.std.specs.BTreeMap.{BTreeMap, get}
use Rattle.std.specs.Ordering.{match_ordering, nat_cmp, ordering_then}
use Rattle.std.specs.Cmp.Lexicographic.{slice_cmp}
use Rattle.std.specs.Rc.{rc_str_bytes}
use Rattle.std.specs.declared.cmp.Ordering.{Ordering}
use Rattle.archive_shape_layout.specs.Bytes.{window}
use Rattle.std.specs.declared.alloc.Global.{Global}
use Rattle.archive_shape_layout.specs.Shape.{Shape}
use Rattle.archive_shape_layout.specs.Shape.Shape.{text}
use Rattle.archive_shape_layout.specs.Value.Value.{string}
use Rattle.archive_shape_layout.specs.Value.{Value}
use Rattle.archive_shape_layout.specs.Content.{Names}
use Rattle.archive_shape.specs.Key.{HeldAt}
use Rattle.archive_forms_values.specs.Parts.{HasValue}
use Rattle.cabinet_text_grammar.specs.Item.{items}
use Rattle.cabinet_text_grammar.specs.Tree.{Tree, Pairs, no_pairs, more_pairs, IsLegal, depth as height, map}
use Rattle.cabinet_text_grammar.specs.Keys.{MapKind}
use Rattle.cabinet_text_grammar.specs.Wholes.{IsTable, numbered, with_wholes, with_wholes_by}
use Rattle.cabinet_text_nodes.specs.NodeTexts.{HasItems, node_text_cmp}
use Rattle.cabinet_text_nodes.specs.View.{node_tree, node_pairs, table_of}
use Rattle.cabinet_text_nodes.specs.declared.node.Node.{Node}
use Rattle.cabinet_text_nodes.specs.declared.node_text.NodeText.{NodeText}
use Rattle.cabinet_documents.specs.Denotes.{Denotes}
use Rattle.cabinet_documents.specs.Node.{node_shape, KnowsNode}
use Rattle.cabinet_archives.specs.Found.{OfDocument}
use Rattle.cabinet_archives.specs.Keyed.{knows_pairs}
use Rattle.cabinet_archives.specs.declared.loading.texts.LoadedTexts.{LoadedTexts}
use Rattle.cabinet_archives.specs.declared.loading.wholes.LoadedWholes.{LoadedWholes}

-- the value at `pos`, which `node` makes the value of a node, denotes a legal tree of at most 64 containers in one
-- another, the `outer` ones around the tree among them
pub record HasTree (node : Value → Value) (s : Shape) (knows : Names → Type 0) (bytes : List ℕ) (pos outer : ℕ) : Type 0 where
  pub value : Value
  pub held : HeldAt s knows bytes pos value
  pub tree : Tree
  pub denotes : Denotes (node value) tree
  pub legal : IsLegal tree
  pub low : outer + height tree ≤ 64

-- `is` is true of every tree that the value at `pos` denotes so
abbrev pub OfTree : (Value → Value) → Shape → (Names → Type 0) → List ℕ → ℕ → (Tree → Type 0) → Type 0
OfTree node s knows bytes pos is = (v : Value) (t : Tree) → HeldAt s knows bytes pos v → Denotes (node v) t → is t

-- the order of positions, and of lengths at one position
abbrev pub place_cmp : ℕ × ℕ → ℕ × ℕ → Ordering
place_cmp a b = ordering_then (nat_cmp a.0 b.0) (nat_cmp a.1 b.1)

-- each text is kept under the position and the length of its bytes
abbrev pub AreReadOf : List ℕ → LoadedTexts → Type 0
AreReadOf bytes texts = (place : ℕ × ℕ) → IfSome (get place_cmp texts.read place) (λ text. rc_str_bytes text ≡ window bytes place.0 place.1)

-- a pair added to others between the smaller and the greater keys; under a key that is there, its tree is replaced
abbrev pub added : List ℕ → Tree → Pairs → Pairs
added k t no_pairs = more_pairs k t no_pairs
added k t (more_pairs l u ps) = match_ordering (slice_cmp nat_cmp k l) (more_pairs k t (more_pairs l u ps)) (more_pairs l t ps) (more_pairs l u (added k t ps))

-- pairs added to others, one after the other
abbrev pub all_added : Pairs → Pairs → Pairs
all_added no_pairs others = others
all_added (more_pairs k t ps) others = all_added ps (added k t others)

-- ---- wholes

abbrev pub loaded_table : LoadedWholes → List Tree
loaded_table wholes = table_of wholes.nodes.items

-- the numbers of a table: each tree is found by its text, and no text leads to another
pub record AreNumbersOf (table : List Tree) (numbers : BTreeMap NodeText ℕ) : Type 0 where
  pub found : (n : ℕ) (t : Tree) → numbered table n ≡ Some t → (key : NodeText) → HasItems key (items table t) → get node_text_cmp numbers key ≡ Some n
  pub told : (key : NodeText) → IfSome (get node_text_cmp numbers key) (λ n. (t : Tree) × (numbered table n ≡ Some t) × HasItems key (items table t))

-- the number that is kept under a position
abbrev pub read_at : LoadedWholes → ℕ → Option ℕ
read_at wholes pos = get nat_cmp wholes.read pos

-- the nodes at these positions have the trees with these numbers
abbrev pub AreRead : List ℕ → List Tree → BTreeMap ℕ ℕ → Type 0
AreRead bytes table read = (pos : ℕ) → IfSome (get nat_cmp read pos) (λ n. OfDocument bytes pos (λ t. numbered table n ≡ Some t))

-- wholes that were loaded of the bytes
pub record AreWholesOf (bytes : List ℕ) (wholes : LoadedWholes) : Type 0 where
  pub table : IsTable (loaded_table wholes)
  pub numbers : AreNumbersOf (loaded_table wholes) wholes.numbers
  pub read : AreRead bytes (loaded_table wholes) wholes.read

-- a node is loaded as the one with a tree, after these wholes, which then are those that the tree adds to them
abbrev pub IsLoaded : LoadedWholes → LoadedWholes → Node → Tree → Type 0
IsLoaded old new node t = (node_tree (loaded_table new) node ≡ t) × (loaded_table new ≡ with_wholes (loaded_table old) t)

-- the same of the pairs of a map
abbrev pub ArePairsLoaded : LoadedWholes → LoadedWholes → List (String Global × Node) → Pairs → Type 0
ArePairsLoaded old new pairs ps = (node_pairs (loaded_table new) pairs ≡ ps) × (loaded_table new ≡ with_wholes_by (loaded_table old) ps)

-- ---- the entries of maps, by the positions of their keys and nodes

-- a key and a node are there; the node lies inside `outer` containers
abbrev pub IsEntry : List ℕ → ℕ → ℕ × ℕ → Type 0
IsEntry bytes outer entry = HasValue text (λ _. ⊤) bytes entry.0 × HasTree (λ v. v) node_shape KnowsNode bytes entry.1 outer

-- the keys and the nodes of entries are those of these pairs
abbrev pub LeadTo : List ℕ → List (ℕ × ℕ) → Pairs → Type 0
LeadTo bytes [] no_pairs = ⊤
LeadTo bytes (entry ∷ entries) (more_pairs k t ps) =
    HeldAt text (λ _. ⊤) bytes entry.0 (string k) × ((v : Value) × HeldAt node_shape KnowsNode bytes entry.1 v × Denotes v t) × LeadTo bytes entries ps
LeadTo bytes _ _ = ⊥

-- entries lead to all pairs of a map of this kind, in the order of the map
abbrev pub AreEntriesOf : MapKind → (Value → Value) → Shape → List ℕ → ℕ → List (ℕ × ℕ) → Type 0
AreEntriesOf kind node s bytes pos entries =
    (outer : ℕ) → HasTree node s knows_pairs bytes pos outer
    → All (IsEntry bytes (outer + 1)) entries × OfTree node s knows_pairs bytes pos (λ t. (ps : Pairs) × (t ≡ map kind ps) × LeadTo bytes entries ps)
