use Rattle.std.proofs.Common.{Bool, false, List}
use Rattle.archive_hash_probing.proofs.InStride.{Pending}
use Rattle.archive_hash_probing.proofs.places.search.find_in_stride.Given as goal

abbrev pub invariant-loop-lane : goal.invariant-loop-lane
invariant-loop-lane g l = (marks : List Bool) × Pending (λ p. goal.F-post g l.accepts p false) l.controls l.capacity l.tag l.position marks l.marks.bits

abbrev pub decreases-loop-lane : goal.decreases-loop-lane
decreases-loop-lane g l = l.marks.bits
