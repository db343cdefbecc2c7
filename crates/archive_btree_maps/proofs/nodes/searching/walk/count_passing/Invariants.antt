use Rattle.std.proofs.Common.{ℕ, ◌+◌, ◌*◌, ◌<◌, true}
use Rattle.archive_btree_maps.proofs.nodes.searching.walk.count_passing.Given as goal

abbrev pub invariant-loop-i : goal.invariant-loop-i
invariant-loop-i g l = (i : ℕ) → i < l.i → goal.F-post g l.passes (l.first + i * l.size) true
