use Rattle.std.proofs.Common.{[], drop}
use Rattle.cabinet_text_nodes.specs.Faults.{HasKeyTwice}
use Rattle.cabinet_text_nodes.specs.View.{node_pairs}
use Rattle.cabinet_text_nodes.proofs.repeated.repeats_in_pairs.Given as goal

-- no key before this place occurs twice
abbrev pub invariant-loop-place : goal.invariant-loop-place
invariant-loop-place l = HasKeyTwice (node_pairs [] l.pairs) → HasKeyTwice (node_pairs [] (drop l.place l.pairs))
