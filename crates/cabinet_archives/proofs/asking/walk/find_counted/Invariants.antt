use Rattle.std.proofs.Common.{◌≡◌, take}
use Rattle.cabinet_text_grammar.specs.Path.{enters}
use Rattle.cabinet_text_nodes.specs.View.{path_of}
use Rattle.cabinet_archives.specs.Cost.{CountsPath}
use Rattle.cabinet_archives.specs.Found.{OfDocument, Reaches}
use Rattle.cabinet_archives.proofs.asking.walk.find_counted.Given as goal

-- the steps so far lead from the root to the node, it is known whether into a whole, and what they take is counted
abbrev pub invariant-loop-step : goal.invariant-loop-step
invariant-loop-step g l =
    let before = path_of (take l.step-index l.path) in
    (l.found.node.bytes ≡ l.fn.root.bytes) × Reaches l.fn.root.bytes.now l.fn.root.pos before l.found.node.pos
    × OfDocument l.fn.root.bytes.now l.fn.root.pos (λ t. l.found.in_whole ≡ enters t before)
    × CountsPath l.fn.root.bytes.now l.fn.root.pos before l.all.comparisons l.all.strides
