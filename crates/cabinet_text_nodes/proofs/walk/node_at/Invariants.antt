use Rattle.std.proofs.Common.{◌≡◌, drop}
use Rattle.cabinet_text_grammar.specs.Path as grammar
use Rattle.cabinet_text_grammar.specs.Tree.{IsLegal}
use Rattle.cabinet_text_grammar.specs.Wholes.{IsTable}
use Rattle.cabinet_text_nodes.specs.View.{node_tree, table_of, path_of}
use Rattle.cabinet_text_nodes.proofs.walk.node_at.Given as goal

-- the rest of the path leads from here where the path leads from the root
abbrev pub invariant-loop-step : goal.invariant-loop-step
invariant-loop-step l =
    let table = table_of l.wholes in
    IsTable table → IsLegal (node_tree table l.root) → IsLegal (node_tree table l.node) × (grammar.node_at (node_tree table l.node) (path_of (drop l.step-index l.path)) ≡ grammar.node_at (node_tree table l.root) (path_of l.path))
