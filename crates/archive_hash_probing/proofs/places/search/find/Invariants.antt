use Rattle.std.proofs.Common.{◌+◌, ◌≤◌, true, false, length}
use Rattle.std.specs.List.{All}
use Rattle.archive_shape_canonical.specs.Strides.{sixteens, strides}
use Rattle.archive_hash_probing.proofs.Walks.{Goes}
use Rattle.archive_hash_probing.proofs.places.search.find.Given as goal

abbrev pub invariant-loop-position : goal.invariant-loop-position
invariant-loop-position g l =
    All (λ p. p + 16 ≤ length l.controls) l.strides
    × (l.searched + length l.strides ≤ sixteens l.capacity)
    × Goes (λ p. goal.F-post g l.accepts p true) (λ p. goal.F-post g l.accepts p false) l.controls l.capacity l.tag (strides l.hash l.capacity) l.strides l.searched

abbrev pub decreases-loop-position : goal.decreases-loop-position
decreases-loop-position g l = length l.strides
