use Rattle.std.proofs.Common.{◌≡◌, [], drop}
use Rattle.cabinet_text_nodes.specs.View.{node_pairs}
use Rattle.cabinet_text_nodes.proofs.Twice.{again, none_before, seen}
use Rattle.cabinet_text_nodes.proofs.repeated.repeats_in_set.Given as goal

-- a key occurs twice where one of the rest is in the set or occurs twice there
abbrev pub invariant-loop-key : goal.invariant-loop-key
invariant-loop-key l = again (seen l.seen) (node_pairs [] (drop l.key-index l.pairs)) ≡ again none_before (node_pairs [] l.pairs)
