-- The code's types as trees, leaves, steps and lines.
use Rattle.std.specs.Prelude.{ℕ, suc, ◌^◌, pos, nat_lt, Bool, true, ◌&&◌, List, [], ◌∷◌, map, Option, Some, None, String, Vec, string_bytes}
use Rattle.std.specs.List.{list_all}
use Rattle.std.specs.Rc.{rc_str_bytes}
use Rattle.std.specs.declared.alloc.Global.{Global}
use Rattle.cabinet_text_grammar.specs.Keys as keys
use Rattle.cabinet_text_grammar.specs.Tree as tree
use Rattle.cabinet_text_grammar.specs.Wholes.{numbered}
use Rattle.cabinet_text_grammar.specs.Item as item
use Rattle.cabinet_text_grammar.specs.Path as path
use Rattle.cabinet_text_grammar.specs.Line as spec_line
use Rattle.cabinet_text_grammar.specs.EditLine as spec_edit
use Rattle.cabinet_text_nodes.specs.declared.node.Node.{Node, fold-Node}
use Rattle.cabinet_text_nodes.specs.declared.node.Node.TheOpen.{Node-F}
use Rattle.cabinet_text_nodes.specs.declared.leaf.Leaf.{Leaf}
use Rattle.cabinet_text_nodes.specs.declared.leaf.Leaf.TheVariants as owned
use Rattle.cabinet_text_nodes.specs.declared.leaf.LeafRef.{LeafRef}
use Rattle.cabinet_text_nodes.specs.declared.leaf.LeafRef.TheVariants as lent
use Rattle.cabinet_text_nodes.specs.declared.head.Head.{Head}
use Rattle.cabinet_text_nodes.specs.declared.head.Head.TheVariants as head
use Rattle.cabinet_text_nodes.specs.declared.head.HeadRef.{HeadRef}
use Rattle.cabinet_text_nodes.specs.declared.head.HeadRef.TheVariants as lent_head
use Rattle.cabinet_text_nodes.specs.declared.line.Step.{Step}
use Rattle.cabinet_text_nodes.specs.declared.line.Step.TheVariants as step
use Rattle.cabinet_text_nodes.specs.declared.line.Line.{Line}
use Rattle.cabinet_text_nodes.specs.declared.line.Line.TheVariants as line
use Rattle.cabinet_text_nodes.specs.declared.line.EditLine.{EditLine}
use Rattle.cabinet_text_nodes.specs.declared.line.EditLine.TheVariants as edit_line

abbrev pub trees_of : List tree.Tree → tree.Trees
trees_of [] = tree.no_trees
trees_of (t ∷ ts) = tree.more_trees t (trees_of ts)

abbrev pub pairs_of : List (String Global × tree.Tree) → tree.Pairs
pairs_of [] = tree.no_pairs
pairs_of (p ∷ ps) = tree.more_pairs (string_bytes p.0) p.1 (pairs_of ps)

-- a tree that is not legal: a number of more than 64 bits
abbrev pub no_tree : tree.Tree
no_tree = tree.leaf (tree.number (pos (2 ^ 64)))

-- a whole has the tree that has its number in a table
abbrev pub whole_of : Option tree.Tree → tree.Tree
whole_of None = tree.whole no_tree
whole_of (Some t) = tree.whole t

-- one level of a node, with each node inside already seen as its tree
abbrev pub view_step : List tree.Tree → Node-F tree.Tree → tree.Tree
view_step table (Node-F.Bool b) = tree.leaf (tree.truth b)
view_step table (Node-F.Int n) = tree.leaf (tree.number n)
view_step table (Node-F.Text t) = tree.leaf (tree.text (string_bytes t))
view_step table (Node-F.Shared t) = tree.shared (rc_str_bytes t)
view_step table (Node-F.Maybe None) = tree.nothing
view_step table (Node-F.Maybe (Some t)) = tree.just t.value
view_step table (Node-F.List v) = tree.list (trees_of v.items)
view_step table (Node-F.Ordered m) = tree.map keys.ordered (pairs_of m.entries)
view_step table (Node-F.Hashed m) = tree.map keys.hashed (pairs_of m.entries)
view_step table (Node-F.Kept v) = tree.map keys.kept (pairs_of v.items)
view_step table (Node-F.Whole n) = whole_of (numbered table n)

-- the numbers of wholes are those of a table
abbrev pub node_tree : List tree.Tree → Node → tree.Tree
node_tree table = fold-Node tree.Tree (view_step table)

-- the elements of a list
abbrev pub node_trees : List tree.Tree → List Node → tree.Trees
node_trees table ns = trees_of (map (node_tree table) ns)

-- the pairs of a map
abbrev pub node_pairs : List tree.Tree → List (String Global × Node) → tree.Pairs
node_pairs table ps = pairs_of (map (λ p. (p.0, node_tree table p.1)) ps)

-- a table, and after it the trees of nodes, each of which has the numbers of those before it
abbrev pub table_after : List tree.Tree → List Node → List tree.Tree
table_after table [] = table
table_after table (n ∷ ns) = table_after (node_tree table n ∷ table) ns

abbrev pub table_of : List Node → List tree.Tree
table_of ns = table_after [] ns

-- the trees of the wholes, which may be none
abbrev pub entries_of : Option (Vec Node Global) → List Node
entries_of None = []
entries_of (Some v) = v.items

-- one level of a node, where it is seen whether the numbers in each node inside are below n
abbrev pub known_step : ℕ → Node-F Bool → Bool
known_step n (Node-F.Bool b) = true
known_step n (Node-F.Int m) = true
known_step n (Node-F.Text t) = true
known_step n (Node-F.Shared t) = true
known_step n (Node-F.Maybe None) = true
known_step n (Node-F.Maybe (Some known)) = known.value
known_step n (Node-F.List v) = list_all (λ known. known) v.items
known_step n (Node-F.Ordered m) = list_all (λ p. p.1) m.entries
known_step n (Node-F.Hashed m) = list_all (λ p. p.1) m.entries
known_step n (Node-F.Kept v) = list_all (λ p. p.1) v.items
known_step n (Node-F.Whole m) = nat_lt m n

-- whether the numbers of all wholes in a node are below n
abbrev pub known_below : ℕ → Node → Bool
known_below n = fold-Node Bool (known_step n)

-- the same of several nodes
abbrev pub all_known : ℕ → List Node → Bool
all_known n xs = list_all (λ known. known) (map (known_below n) xs)

-- whether each node of a table has the numbers of those before it
abbrev pub known_after : ℕ → List Node → Bool
known_after n [] = true
known_after n (x ∷ xs) = known_below n x && known_after (suc n) xs

abbrev pub leaf_of : Leaf → tree.Leaf
leaf_of (owned.Bool b) = tree.truth b
leaf_of (owned.Int n) = tree.number n
leaf_of (owned.Text t) = tree.text (string_bytes t)

abbrev pub lent_leaf : LeafRef → tree.Leaf
lent_leaf (lent.Bool b) = tree.truth b
lent_leaf (lent.Int n) = tree.number n
lent_leaf (lent.Text t) = tree.text t.now

abbrev pub item_of : Head → item.Item
item_of (head.Leaf l) = item.leaf_item (leaf_of l)
item_of (head.Shared t) = item.shared_item (rc_str_bytes t)
item_of head.None = item.none_item
item_of head.Some = item.some_item
item_of (head.List n) = item.list_item n
item_of (head.Ordered n) = item.map_item keys.ordered n
item_of (head.Hashed n) = item.map_item keys.hashed n
item_of (head.Kept n) = item.map_item keys.kept n
item_of (head.Whole n) = item.whole_item n

abbrev pub lent_item : HeadRef → item.Item
lent_item (lent_head.Leaf l) = item.leaf_item (lent_leaf l)
lent_item (lent_head.Shared t) = item.shared_item t.now
lent_item lent_head.None = item.none_item
lent_item lent_head.Some = item.some_item
lent_item (lent_head.List n) = item.list_item n
lent_item (lent_head.Ordered n) = item.map_item keys.ordered n
lent_item (lent_head.Hashed n) = item.map_item keys.hashed n
lent_item (lent_head.Kept n) = item.map_item keys.kept n
lent_item lent_head.Whole = item.whole_head

abbrev pub step_of : Step → path.Step
step_of (step.Key k) = path.key (string_bytes k)
step_of (step.Place n) = path.place n
step_of step.Inside = path.inside

abbrev pub path_of : List Step → List path.Step
path_of steps = map step_of steps

abbrev pub line_of : Line → spec_line.Line
line_of (line.Get path) = spec_line.get (path_of path.items)
line_of (line.Keys path) = spec_line.keys (path_of path.items)
line_of (line.Range low high path) = spec_line.range (string_bytes low) (string_bytes high) (path_of path.items)
line_of (line.Set path l) = spec_line.set (path_of path.items) (leaf_of l)

-- a new node has no wholes
abbrev pub edit_line_of : EditLine → spec_edit.EditLine
edit_line_of (edit_line.About l) = spec_edit.about (line_of l)
edit_line_of (edit_line.Put path new) = spec_edit.put_line (path_of path.items) (node_tree [] new)
edit_line_of (edit_line.Insert path new) = spec_edit.insert_line (path_of path.items) (node_tree [] new)
edit_line_of (edit_line.Remove path) = spec_edit.remove_line (path_of path.items)
