use Rattle.std.proofs.Common.{◌≡◌, ◌+◌, [], drop}
use Rattle.std.specs.Option.{option_map}
use Rattle.cabinet_text_nodes.specs.Answers.{place_by}
use Rattle.cabinet_text_nodes.specs.View.{node_pairs}
use Rattle.cabinet_text_nodes.proofs.change.place_of.Given as goal

-- the key is not before this place
abbrev pub invariant-loop-place : goal.invariant-loop-place
invariant-loop-place l = place_by (node_pairs [] l.pairs) l.key ≡ option_map (λ i. l.place + i) (place_by (node_pairs [] (drop l.place l.pairs)) l.key)
