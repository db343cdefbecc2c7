-- The depths of nodes, where those of the wholes are known by their numbers.
use Rattle.std.specs.Prelude.{◌≡◌, ℕ, ◌<◌, ◌-◌, ◌^◌, List}
use Rattle.cabinet_text_grammar.specs.Tree.{Tree, depth, most_depth}
use Rattle.cabinet_text_nodes.specs.View.{node_tree, node_trees}
use Rattle.cabinet_text_nodes.specs.Faults.{AreDepths}
use Rattle.cabinet_text_nodes.specs.declared.node.Node.{Node}

-- a depth that fits a `usize`
abbrev pub NodeDepth : List ℕ → Node → ℕ → Type 0
NodeDepth depths n r = (table : List Tree) → AreDepths table depths → depth (node_tree table n) < 2 ^ 64 - 1 → r ≡ depth (node_tree table n)

-- the largest depth of several nodes
abbrev pub NodesDepth : List ℕ → List Node → ℕ → Type 0
NodesDepth depths ns r = (table : List Tree) → AreDepths table depths → most_depth (node_trees table ns) < 2 ^ 64 - 1 → r ≡ most_depth (node_trees table ns)
