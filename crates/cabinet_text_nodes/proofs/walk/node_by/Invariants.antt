use Rattle.std.proofs.Common.{◌≡◌, List, [], drop}
use Rattle.cabinet_text_grammar.specs.Tree.{Tree}
use Rattle.cabinet_text_grammar.specs.Path as grammar
use Rattle.cabinet_text_nodes.specs.View.{node_pairs}
use Rattle.cabinet_text_nodes.proofs.walk.node_by.Given as goal

abbrev pub invariant-loop-other : goal.invariant-loop-other
invariant-loop-other l = (table : List Tree) → grammar.node_by (node_pairs table (drop l.other-index l.pairs)) l.key [] ≡ grammar.node_by (node_pairs table l.pairs) l.key []
