-- Walks that complete the wholes of a table in their order.
use Rattle.std.specs.Prelude.{◌≡◌, ℕ, List, ◌++◌, length, Option, Some, None}
use Rattle.cabinet_text_grammar.specs.Tree.{Tree, IsLegal, AreLegal}
use Rattle.cabinet_text_grammar.specs.Wholes.{with_wholes, with_wholes_in, IsTable}
use Rattle.cabinet_text_nodes.specs.View.{node_tree, node_trees, table_of}
use Rattle.cabinet_text_nodes.specs.declared.node.Node.{Node}

-- the first wholes of a table, the last first
abbrev pub IsEnd : List Tree → List Tree → Type 0
IsEnd done table = (more : List Tree) × (more ++ done ≡ table)

-- Where the first wholes of a table are complete, a walk completes those after them, up to a number; or it completes
-- another whole before one of them. `grown` has the wholes that are complete after the walk.
abbrev pub IsWalk : List Tree → ℕ → (List Tree → List Tree) → Option ℕ → Type 0
IsWalk table next grown (Some n) = (done : List Tree) → IsEnd done table → length done ≡ next → IsEnd (grown done) table × (length (grown done) ≡ n)
IsWalk table next grown None = (done : List Tree) → IsEnd done table → length done ≡ next → (larger : List Tree) → IsEnd table larger → IsEnd (grown done) larger → ⊥

-- the walk of a node
abbrev pub WalksNode : List Node → Node → ℕ → Option ℕ → Type 0
WalksNode wholes n next r = IsTable (table_of wholes) → IsLegal (node_tree (table_of wholes) n) → IsWalk (table_of wholes) next (λ done. with_wholes done (node_tree (table_of wholes) n)) r

-- the walk of several nodes
abbrev pub WalksNodes : List Node → List Node → ℕ → Option ℕ → Type 0
WalksNodes wholes ns next r = IsTable (table_of wholes) → AreLegal (node_trees (table_of wholes) ns) → IsWalk (table_of wholes) next (λ done. with_wholes_in done (node_trees (table_of wholes) ns)) r
