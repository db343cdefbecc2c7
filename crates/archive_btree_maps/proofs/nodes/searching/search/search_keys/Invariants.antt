use Rattle.std.proofs.Common.{◌+◌, ◌*◌}
use Rattle.archive_btree_maps.specs.Searching.{AreBelow}
use Rattle.archive_btree_maps.proofs.nodes.searching.search.search_keys.Given as goal

abbrev pub invariant-loop-i : goal.invariant-loop-i
invariant-loop-i g l = AreBelow (λ i r. goal.F-post g l.compare (l.first + i * l.size) r) l.i
