-- The reasons for which a node, or a root and the nodes of its wholes, are no document.
use Rattle.std.specs.Prelude.{◌≡◌, ◌≢◌, ℕ, zero, suc, ◌<◌, ◌≤◌, length, slice_get, Bool, false, ◌&&◌, IsTrue, List, [], ◌∷◌, Option, Some, None, ◌⊎◌}
use Rattle.cabinet_text_grammar.specs.Keys.{MapKind, kept}
use Rattle.cabinet_text_grammar.specs.Tree.{Tree, leaf, shared, nothing, just, list, map, whole, Trees, no_trees, more_trees, Pairs, no_pairs, more_pairs, depth, most_depth, IsLegal, AreLegal}
use Rattle.cabinet_text_grammar.specs.Wholes.{numbered, has, wholes_of, IsTable}
use Rattle.cabinet_text_nodes.specs.View.{node_tree, node_trees, known_below, all_known, known_after, table_of}
use Rattle.cabinet_text_nodes.specs.declared.node.Node.{Node}
use Rattle.cabinet_text_nodes.specs.declared.refusal.DocumentRefusal.{DocumentRefusal}
use Rattle.cabinet_text_nodes.specs.declared.refusal.DocumentRefusal.TheVariants.{UnknownWhole, TooDeep, RepeatedKey, RepeatedWhole, WholeOrder, OutOfMemory}

-- one of the pairs has the key
abbrev pub HasKey : List ℕ → Pairs → Type 0
HasKey k no_pairs = ⊥
HasKey k (more_pairs l t ps) = (l ≡ k) ⊎ HasKey k ps

-- two of the pairs have the same key
abbrev pub HasKeyTwice : Pairs → Type 0
HasKeyTwice no_pairs = ⊥
HasKeyTwice (more_pairs k t ps) = HasKey k ps ⊎ HasKeyTwice ps

abbrev pub RepeatsHere : MapKind → Pairs → Type 0
RepeatsHere kept ps = HasKeyTwice ps
RepeatsHere kind ps = ⊥

-- a kept map, here or further in, has a key twice
abbrev mutual
  pub RepeatsKey : Tree → Type 0
  RepeatsKey (leaf l) = ⊥
  RepeatsKey (shared t) = ⊥
  RepeatsKey nothing = ⊥
  RepeatsKey (just t) = RepeatsKey t
  RepeatsKey (list ts) = RepeatAmong ts
  RepeatsKey (map kind ps) = RepeatsHere kind ps ⊎ RepeatAmongPairs ps
  RepeatsKey (whole t) = RepeatsKey t

  pub RepeatAmong : Trees → Type 0
  RepeatAmong no_trees = ⊥
  RepeatAmong (more_trees t ts) = RepeatsKey t ⊎ RepeatAmong ts

  pub RepeatAmongPairs : Pairs → Type 0
  RepeatAmongPairs no_pairs = ⊥
  RepeatAmongPairs (more_pairs k t ps) = RepeatsKey t ⊎ RepeatAmongPairs ps

-- these are the depths of the trees of a table, by their numbers
pub record AreDepths (table : List Tree) (depths : List ℕ) : Type 0 where
  pub as_many : length depths ≡ length table
  pub each : (n : ℕ) (t : Tree) → numbered table n ≡ Some t → slice_get depths n ≡ Some (depth t)

abbrev pub AllLegal : List Tree → Type 0
AllLegal table = (n : ℕ) (t : Tree) → numbered table n ≡ Some t → IsLegal t

-- What is reported of a node: that a number in it is of no whole, or else that more than `room` containers lie in one
-- another, or else that a key is repeated; nothing of a tree that is legal where those of the wholes are.
abbrev pub IsFault : Type 0 → ℕ → Bool → Tree → Option DocumentRefusal → Type 0
IsFault legal room known t None = IsTrue known × (legal → IsLegal t) × (depth t ≤ room)
IsFault legal room known t (Some UnknownWhole) = known ≡ false
IsFault legal room known t (Some TooDeep) = IsTrue known × (room < depth t)
IsFault legal room known t (Some RepeatedKey) = IsTrue known × (depth t ≤ room) × RepeatsKey t
IsFault legal room known t (Some _) = ⊥

-- the same for several nodes
abbrev pub AreFaults : Type 0 → ℕ → Bool → Trees → Option DocumentRefusal → Type 0
AreFaults legal room known ts None = IsTrue known × (legal → AreLegal ts) × (most_depth ts ≤ room)
AreFaults legal room known ts (Some UnknownWhole) = known ≡ false
AreFaults legal room known ts (Some TooDeep) = IsTrue known × (room < most_depth ts)
AreFaults legal room known ts (Some RepeatedKey) = IsTrue known × (most_depth ts ≤ room) × RepeatAmong ts
AreFaults legal room known ts (Some _) = ⊥

-- the fault that is reported of two
abbrev pub worse_of : Option DocumentRefusal → Option DocumentRefusal → Option DocumentRefusal
worse_of None other = other
worse_of (Some UnknownWhole) other = Some UnknownWhole
worse_of (Some TooDeep) (Some UnknownWhole) = Some UnknownWhole
worse_of (Some TooDeep) other = Some TooDeep
worse_of one None = one
worse_of one other = other

-- the room inside a container, and the fault of the container where there is no room for it
abbrev pub IsInside : ℕ → ℕ → Option DocumentRefusal → Type 0
IsInside zero inner own = (inner ≡ 0) × (own ≡ Some TooDeep)
IsInside (suc room) inner own = (inner ≡ room) × (own ≡ None)

-- the fault of a node where these are the depths of the wholes
abbrev pub NodeFault : List ℕ → ℕ → Node → Option DocumentRefusal → Type 0
NodeFault depths room n r = (table : List Tree) → AreDepths table depths → IsFault (AllLegal table) room (known_below (length depths) n) (node_tree table n) r

abbrev pub NodeFaults : List ℕ → ℕ → List Node → Option DocumentRefusal → Type 0
NodeFaults depths room ns r = (table : List Tree) → AreDepths table depths → AreFaults (AllLegal table) room (all_known (length depths) ns) (node_trees table ns) r

-- the node is the root of no document without wholes, for this reason
abbrev pub IsRefusedFor : ℕ → Node → DocumentRefusal → Type 0
IsRefusedFor room n r = IsFault (Unit {0}) room (known_below 0 n) (node_tree [] n) (Some r)

-- ---- documents with wholes

-- the wholes of the trees of a table
abbrev pub wholes_with : List Tree → Trees
wholes_with [] = no_trees
wholes_with (t ∷ table) = more_trees (whole t) (wholes_with table)

-- the tree of a root, and the wholes of a document
abbrev pub trees_with : List Node → Node → Trees
trees_with ns root = more_trees (node_tree (table_of ns) root) (wholes_with (table_of ns))

-- each entry has numbers of those before it alone, and the root those of entries
abbrev pub known_with : List Node → Node → Bool
known_with ns root = known_below (length ns) root && known_after 0 ns

-- a tree is in a table twice
abbrev pub HasTwice : List Tree → Type 0
HasTwice [] = ⊥
HasTwice (t ∷ table) = IsTrue (has table t) ⊎ HasTwice table

-- what is reported of a root and the nodes of its wholes, each of which lies inside one container
abbrev pub TableFault : List Node → Node → Option DocumentRefusal → Type 0
TableFault ns root r = AreFaults (Unit {0}) 64 (known_with ns root) (trees_with ns root) r

-- the root and the nodes of its wholes are no document, for this reason
abbrev pub IsRefusedTable : List Node → Node → DocumentRefusal → Type 0
IsRefusedTable ns root RepeatedWhole = TableFault ns root None × HasTwice (table_of ns)
IsRefusedTable ns root WholeOrder = TableFault ns root None × IsTable (table_of ns) × (wholes_of (node_tree (table_of ns) root) ≢ table_of ns)
IsRefusedTable ns root OutOfMemory = 0 < length ns
IsRefusedTable ns root r = TableFault ns root (Some r)
