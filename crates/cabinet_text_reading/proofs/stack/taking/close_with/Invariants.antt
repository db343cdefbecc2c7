use Rattle.std.proofs.Common.{◌≡◌, ℕ, List, length}
use Rattle.cabinet_text_grammar.specs.Frame.{AreOpen}
use Rattle.cabinet_text_grammar.specs.Machine.{plug}
use Rattle.cabinet_text_grammar.specs.Tree.{Tree}
use Rattle.cabinet_text_nodes.specs.View.{node_tree}
use Rattle.cabinet_text_reading.specs.View.{stack_of}
use Rattle.cabinet_text_reading.proofs.stack.taking.close_with.Given as goal

-- the state after putting the node in stays the same
abbrev pub invariant-loop-frame : goal.invariant-loop-frame
invariant-loop-frame l =
    (table : List Tree) (around : ℕ)
    → AreOpen table around (stack_of table l.initial.stack.items)
    → (plug (node_tree table l.node) (stack_of table l.stack.items) ≡ plug (node_tree table l.fn.complete) (stack_of table l.initial.stack.items))
    × AreOpen table around (stack_of table l.stack.items)

abbrev pub decreases-loop-frame : goal.decreases-loop-frame
decreases-loop-frame l = length l.stack.items
